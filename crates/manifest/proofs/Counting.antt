-- The units of an accepted manifest, counted where its starts say.
use Prim.Native.Nat.{ℕ, ◌+◌, ◌*◌, ◌-◌, ◌^◌, ◌≤◌, ◌<◌}
use native.Mathlib.Omega.{arith}
use mathlib.Core.Path.{◌≡◌, refl}
use mathlib.Core.Bool.{true, cond}
use mathlib.Core.List.{List}
use lib.ListN.{length, get_or, replicate}
use lib.Dec.{leb}
use borrow.Author.Tests.{le-leb, lt-leb}
use Rattle.std.specs.Prelude.{Ok}
use Rattle.state.specs.Outcome.{got, refuses}
use Rattle.format.specs.Manifest.{counted, state_slots}
use Rattle.format.specs.Fields.{slots_of}
use Rattle.format.specs.Places.{number_at}
use Rattle.format.specs.Values.{value_at}
use Rattle.questions.specs.Sets.{all}
use Rattle.questions.specs.Slots.{end_fits}
use Rattle.questions.specs.Units.{word_total, units_of, units_answer}
use Rattle.state_layout.specs.Tables.{manifest_of}
use Rattle.manifest.specs.Accepted.{Accepted}
use Rattle.state_layout.proofs.Starts.{slots-there, connectors-counted}

-- what is left of the index: all, or all cleared
abbrev pub kept : (s index : List ℕ) → List ℕ
kept s index = cond (leb (units_of (manifest_of s)) (2 ^ 64 - 1)) index (replicate (length index) 0)

-- the slots are counted at p
module _ {s index : List ℕ} (a : Accepted s index) {p : ℕ} (slots : p ≡ get_or index 8 0) where
  pub slots-fit : all end_fits (value_at (counted state_slots) s p) ≡ true
  slots-fit = rw (slots, ← slots-there a.started) a.fits

  -- they have w words; c connectors are counted at q
  module _ {w : ℕ} (words : w ≡ word_total (value_at (counted state_slots) s p)) {q c : ℕ} (connectors : q ≡ get_or index 3 0) (count : c ≡ number_at 4 s q) where
    words_are : word_total (slots_of (manifest_of s)) ≡ w
    words_are = rw (words, slots, slots-there a.started)

    units-are : units_of (manifest_of s) ≡ 4 * w + c
    unfolding units_of
    units-are = rw (words_are, connectors-counted a.started, count, connectors)

    pub units-above : 2 ^ 64 ≤ 4 * w + c → (refuses 39 0 ≡ units_answer 0 (got (manifest_of s) 0)) × (replicate (length index) 0 ≡ kept s index)
    unfolding units_answer
    units-above h = rw (units-are, lt-leb (4 * w + c) (2 ^ 64 - 1) (omega arith)) (refl, refl)

    pub units-fit : {u : ℕ} → u ≡ 4 * w + c → u < 2 ^ 64 → (Ok (record { words = w; units = u }) ≡ units_answer 0 (got (manifest_of s) 0)) × (index ≡ kept s index)
    unfolding units_answer
    units-fit e h = rw (units-are, words_are, e, le-leb (4 * w + c) (2 ^ 64 - 1) (omega arith)) (refl, refl)
