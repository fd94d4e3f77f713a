-- The tail, part by part: what the code's answers come to.
use Prim.Native.Nat.{ℕ, ◌<◌}
use native.Mathlib.Omega.{arith}
use mathlib.Core.Path.{◌≡◌, sym, ap, ◌∙◌}
use mathlib.Core.Bool.{true}
use mathlib.Core.List.{List}
use lib.ListN.{length, get_or}
use Rattle.state.specs.declared.Question.{Question}
use Rattle.state.specs.declared.Refusal.{Refusal}
use Rattle.questions.proofs.Chains.{said-no, said-yes}
use Rattle.std.specs.Prelude.{Ok, Err}
use Rattle.state.specs.Outcome.{got, step_of, Stepped, refusal, said}
use Rattle.state.proofs.Outcome.{heed-no, step-refused, step-yields, step_keeps, always}
use Rattle.state_wire.specs.Fields.{max_snapshot_bytes}
use Rattle.format.specs.Format.{Fmt, read, scan}
use Rattle.format.specs.Manifest.{counted, state_slots}
use Rattle.format.specs.Fields.{enums_of, connectors_of, slots_of}
use Rattle.format.specs.Values.{value_at, Well}
use Rattle.format.proofs.Values.{value-got, well}
use Rattle.questions.specs.Sets.{all}
use Rattle.questions.specs.Slots.{end_fits}
use Rattle.questions.specs.Units.{word_total}
use Rattle.tail.specs.Tail.{values, values_answer, read_words, read_flags, read_tail}
use Rattle.state_layout.specs.Tables.{manifest_of, Started}
use Rattle.state_layout.proofs.Tables.{limit}
use Rattle.state_layout.proofs.Starts.{slots-there}
use Rattle.state_layout.proofs.Indexed.{laid_of, laid_started}
use Rattle.state_codec.specs.Listed.{Asked}

-- what was read is the value that the bytes spell
read-spelled : (f : Fmt) (t : List ℕ) (at : ℕ) {r : Stepped} {p : ℕ} → r ≡ scan limit f t at → r ≡ Ok p → read limit f t at ≡ got (value_at f t at) p
unfolding scan
read-spelled f t at e i = let y = step-yields (value-got limit t f at) e i in rw y.2.1 y.1

-- ---- the slots of the manifest
module _ {s index : List ℕ} (a : Asked s index) where
  started : Started s index
  started = laid_started (laid_of a.tabled)

  -- where the slots start is word 8
  pub starts-long : 8 < length index
  starts-long = omega (arith, started.long)

  -- no slot ends above 2^64 − 1
  pub slots-fit : {x : ℕ} → x ≡ get_or index 8 0 → all end_fits (value_at (counted state_slots) s x) ≡ true
  slots-fit e = rw (e, ← slots-there started) a.fits

  -- ---- the tail
  module _ (t : List ℕ) {r : Stepped} (er : r ≡ scan limit (counted values) t 0) where
    -- refused among the values
    pub values-stop : {d : Refusal ℕ} → r ≡ Err d → r ≡ step_of (read_tail (manifest_of s) t)
    unfolding read_tail scan
    values-stop i = i ∙ rw (step-refused (read limit (counted values) t 0) er i)

    module _ {p : ℕ} (ir : r ≡ Ok p) where
      values-read : read limit (counted values) t 0 ≡ got (value_at (counted values) t 0) p
      values-read = read-spelled (counted values) t 0 er ir

      -- the values were read
      pub values-well : Well max_snapshot_bytes (counted values) t 0
      values-well = well limit t (counted values) 0 (omega arith) values-read

      abbrev asks : ℕ
      asks = values_answer (enums_of (manifest_of s)) (connectors_of (manifest_of s)) (value_at (counted values) t 0)

      -- 33 to 36 say no
      pub values-no : {d : Question} → Err d ≡ said asks → Err (record { question = d; at = p }) ≡ step_of (read_tail (manifest_of s) t)
      unfolding read_tail
      values-no {d = d} h =
          let no = said-no asks (sym h) in
          ap (λ (x : ℕ). Err (refusal x p)) (sym no.0) ∙ rw values-read (heed-no asks p _ no.1)

      module _ {u : Unit} (yes : Ok u ≡ said asks) {x k : ℕ} (ex : x ≡ get_or index 8 0) (ek : k ≡ word_total (value_at (counted state_slots) s x))
          {w : Stepped} (ew : w ≡ step_of (read_words k t p)) where
        total : word_total (slots_of (manifest_of s)) ≡ k
        total = rw (slots-there started, ← ex) (sym ek)

        none : asks ≡ 0
        none = said-yes asks (sym yes)

        -- refused among the words, or by 37
        pub words-stop : {d : Refusal ℕ} → w ≡ Err d → w ≡ step_of (read_tail (manifest_of s) t)
        unfolding read_tail
        words-stop i = i ∙ rw (values-read, none, total, step-refused (read_words k t p) ew i)

        -- the flags decide
        pub words_right : {e : ℕ} → w ≡ Ok e → {f : Stepped} → f ≡ step_of (read_flags t e) → f ≡ step_of (read_tail (manifest_of s) t)
        unfolding read_tail
        words_right {e} i h =
            let y = step-yields (always (read_words k t p)) ew i in
            h ∙ rw (values-read, none, total, y.1) (sym (step_keeps (read_flags t e) (λ _. manifest_of s)))
