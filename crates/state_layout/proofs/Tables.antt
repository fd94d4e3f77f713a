-- What the words of the index are where a manifest was read: the entries of each section, in order.
use Prim.Native.Nat.{ℕ, zero, suc, ◌+◌, ◌-◌, ◌<◌}
use native.Mathlib.Omega.{arith}
use native.Mathlib.Nat.{min-eq_left}
use mathlib.Core.Path.{◌≡◌, refl, sym, ap, ◌∙◌, subst}
use mathlib.Core.List.{List, [], ◌∷◌, map}
use lib.ListN.{length, take, drop, length-map}
use lib.Seq.{take_at, drop_at, drop-drop}
use borrow.Author.Tests.{le-leb}
use Rattle.state.specs.Bytes.{AreBytes, span}
use Rattle.state_wire.specs.Fields.{max_snapshot_bytes}
use Rattle.format.specs.Format.{El}
use Rattle.format.specs.Admits.{All, Holds}
use Rattle.format.specs.Manifest.{Section, entry, counted, sequence, input_definitions}
use Rattle.format.specs.Fields.{Entry}
use Rattle.format.specs.Places.{count_at, number_at, end_at, starts, entry_starts, past}
use Rattle.format.specs.Values.{values_at, value_at, Well, WellEach}
use Rattle.format.proofs.Sound.{read-sound}
use Rattle.format.proofs.Places.{end-got}
use Rattle.format.proofs.Values.{well-then, well-list}
use Rattle.questions.specs.Sets.{sum}
use Rattle.state_layout.specs.Tables.{counts, Table}

abbrev pub limit : ℕ
limit = max_snapshot_bytes

-- ---- the list at a place
abbrev pub pick : List Section → ℕ → Section
pick [] i = input_definitions
pick (e ∷ es) zero = e
pick (e ∷ es) (suc i) = pick es i

abbrev pub picked : (es : List Section) → El (sequence (map counted es)) → (i : ℕ) → List (Entry (pick es i))
picked [] v i = []
picked (e ∷ es) v zero = v.0
picked (e ∷ es) v (suc i) = picked es v.1 i

pub span-after : (l : List ℕ) (c a b : ℕ) → span l (c + a) (c + b) ≡ span (drop c l) a b
span-after l c a b = let e : c + b - (c + a) ≡ b - a = omega arith in rw (e, drop-drop a c l)

module _ (s : List ℕ) (bytes : AreBytes s) where
  -- ---- one list
  each-starts : (e : Section) (n at : ℕ) → WellEach limit (entry e) s n at
      → All (Well limit (entry e) s) (starts limit (entry e) s n at)
      × (map (value_at (entry e) s) (starts limit (entry e) s n at) ≡ values_at (value_at e.key s) (value_at e.rest s) (past e.key s) (past e.rest s) n at)
  unfolding starts value_at past
  each-starts e zero at w = (tt, refl)
  each-starts e (suc n) at w =
      let p : end_at limit (entry e) s at ≡ past e.rest s (past e.key s at) = end-got limit (entry e) s at w.0.reads in
      let h = each-starts e n (past e.rest s (past e.key s at)) w.1 in
      rw p ((w.0, h.0), ap (λ vs. (value_at e.key s at, value_at e.rest s (past e.key s at)) ∷ vs) h.1)

  -- the entries of a list that was read
  list-table : (e : Section) (at : ℕ) → Well limit (counted e) s at → Table e s (starts limit (entry e) s (count_at s at) (at + 4)) (value_at (counted e) s at)
  unfolding value_at number_at Holds
  list-table e at w =
      let l = well-list limit s e.rule e.key e.rest 4 e.least at w in
      let c : number_at 4 s at ≡ count_at s at = rw (le-leb (at + 4) (length s) l.0) in
      let h = each-starts e (count_at s at) (at + 4) (subst (λ n. WellEach limit (entry e) s n (at + 4)) c l.1) in
      record {
        values = rw (le-leb (at + 4) (length s) l.0, min-eq_left l.0) h.1;
        well = h.0;
        order = (read-sound limit s bytes (counted e) at (value_at (counted e) s at) (past (counted e) s at) w.here w.reads).holds.2;
      }

  -- ---- one list after another
  abbrev pub Tables : (es : List Section) → List ℕ → El (sequence (map counted es)) → Type 0
  Tables [] ps v = ps ≡ []
  Tables (e ∷ es) ps v = Table e s (take (length v.0) ps) v.0 × Tables es (drop (length v.0) ps) v.1

  pub lists-tables : (es : List Section) (at : ℕ) → Well limit (sequence (map counted es)) s at → Tables es (entry_starts limit es s at) (value_at (sequence (map counted es)) s at)
  unfolding entry_starts value_at
  lists-tables [] at w = refl
  lists-tables (e ∷ es) at w =
      let p = well-then limit s (counted e) (sequence (map counted es)) at w in
      let ps = starts limit (entry e) s (count_at s at) (at + 4) in
      let t : Table e s ps (value_at (counted e) s at) = list-table e at p.0 in
      let l : length ps ≡ length (value_at (counted e) s at) = sym (length-map ps (value_at (entry e) s)) ∙ ap length t.values in
      let i : end_at limit (counted e) s at ≡ past (counted e) s at = end-got limit (counted e) s at p.0.reads in
      rw (i, take_at ps (entry_starts limit es s (past (counted e) s at)) (length (value_at (counted e) s at)) l, drop_at ps (entry_starts limit es s (past (counted e) s at)) (length (value_at (counted e) s at)) l)
      (t, lists-tables es (past (counted e) s at) p.1)

  pub table-picked : (es : List Section) (ps : List ℕ) (v : El (sequence (map counted es))) (i : ℕ) → i < length es → Tables es ps v
      → Table (pick es i) s (span ps (sum (take i (counts es v))) (sum (take (suc i) (counts es v)))) (picked es v i)
  unfolding counts sum
  table-picked [] ps v i h t = absurd (omega arith)
  table-picked (e ∷ es) ps v zero h t = let n : length v.0 + 0 - 0 ≡ length v.0 = omega arith in rw n t.0
  table-picked (e ∷ es) ps v (suc i) h t =
      rw (span-after ps (length v.0) (sum (take i (counts es v.1))) (sum (take (suc i) (counts es v.1))))
      (table-picked es (drop (length v.0) ps) v.1 i (omega arith) t.1)
