-- What acceptance tells: of the bytes and the index, of the manifest that was read, and of the questions over the whole.
use Prim.Native.Nat.{ℕ, ◌≤◌}
use mathlib.Core.Bool.{false≢true}
use mathlib.Core.Path.{◌≡◌, refl, subst}
use mathlib.Core.List.{List}
use lib.ListN.{length}
use lib.Dec.{leb, eqb}
use borrow.Author.Tests.{leb-true, eqb-true, eq-eqb}
use Rattle.state.specs.Bytes.{AreBytes}
use Rattle.state.specs.Outcome.{Outcome, got, refused}
use Rattle.std.specs.Prelude.{IsOk}
use Rattle.state.proofs.Outcome.{Yields, this, yielded, yields-ask, yields-heed, yields-bind}
use Rattle.state_wire.specs.Fields.{max_snapshot_bytes}
use Rattle.format.specs.Format.{El, read, encode}
use Rattle.format.specs.Admits.{Holds}
use Rattle.format.specs.Manifest.{manifest}
use Rattle.format.specs.Places.{past}
use Rattle.format.specs.Reading.{index_words, read_sections, read_manifest}
use Rattle.format.specs.Values.{value_at}
use Rattle.format.proofs.Canonical.{canonical}
use Rattle.format.proofs.Values.{self, spells}
use Rattle.questions.specs.Sets.{first}
use Rattle.questions.specs.Declarations.{declarations}
use Rattle.questions.specs.References.{references, boundaries}
use Rattle.questions.specs.Slots.{slots}
use Rattle.questions.specs.Inputs.{input_definitions_hold}
use Rattle.questions.specs.Order.{answers, first_failing}
use Rattle.questions.specs.Answers.{judge, decoded_of, decode_manifest}
use Rattle.questions.proofs.Chains.{groups_none}

-- ---- questions 1 to 10
module _ (s : List ℕ) (w : ℕ) where
  -- bytes and an index that are not too long and not too short, and a manifest that ends where the bytes do
  pub record Passed (m : El manifest) (n : ℕ) : Type 0 where
    pub short : length s ≤ max_snapshot_bytes
    pub words : index_words (length s) ≤ w
    pub reads : read max_snapshot_bytes manifest s 0 ≡ got m (length s)
    pub whole : n ≡ length s

  -- so it is where a manifest was read
  pub yields-passed : Yields Passed (read_manifest max_snapshot_bytes s w)
  unfolding read_manifest read_sections
  yields-passed =
      yields-ask (leb (length s) max_snapshot_bytes) _ _ λ a.
      yields-ask (leb (index_words (length s)) w) _ _ λ b.
      yields-bind (self (read max_snapshot_bytes manifest s 0)) λ m n e.
      yields-ask (eqb n (length s)) _ _ λ f.
      let i : n ≡ length s = eqb-true _ _ f in
      this (record { short = leb-true _ _ a; words = leb-true _ _ b; reads = rw (← i) e; whole = i })

  -- what was read is written as the bytes, and a value that the format admits
  pub passed-canonical : AreBytes s → {m : El manifest} {n : ℕ} → Passed m n → (encode manifest m ≡ s) × Holds max_snapshot_bytes manifest m
  unfolding read_sections
  passed-canonical b {m} p =
      let r : read_sections max_snapshot_bytes s ≡ got m (length s) = rw (p.reads, eq-eqb (length s) (length s) refl) in
      let c = canonical max_snapshot_bytes s b r in
      (c.1, c.2)

-- ---- questions 1 to 32
-- what is accepted was read
pub decoded-got : (base : ℕ) (s : List ℕ) (o : Outcome (El manifest)) → IsOk (decoded_of base s o) → (m : El manifest) × (n : ℕ) × (o ≡ got m n)
decoded-got base s (got m n) h = (m, n, refl)
decoded-got base s (refused q p) h = absurd (false≢true h)

module _ (bound : List (List ℕ)) (revision : ℕ) where
  module _ (s : List ℕ) (w : ℕ) where
    -- and no question over the whole says no
    pub record Judged (m : El manifest) (n : ℕ) : Type 0 where
      pub passed : Passed s w m n
      pub none : first_failing bound revision m ≡ 0

    -- so it is where a manifest was accepted
    pub judge-tells : {m : El manifest} {n : ℕ} → judge bound revision s w ≡ got m n → Judged m n
    unfolding judge
    judge-tells e = yielded (subst (Yields Judged) e
        (yields-bind (yields-passed s w) λ m n p. yields-heed (first_failing bound revision m) n λ i. this (record { passed = p; none = i })))

    -- it is the manifest that the bytes spell, to their end
    pub judge-spells : {m : El manifest} {n : ℕ} → judge bound revision s w ≡ got m n → (past manifest s 0 ≡ length s) × (value_at manifest s 0 ≡ m)
    judge-spells e = spells max_snapshot_bytes s manifest 0 (judge-tells e).passed.reads

  -- none says no among those over the declarations
  pub declarations-say-yes : (m : El manifest) → first_failing bound revision m ≡ 0 → first (declarations m) ≡ 0
  unfolding first_failing answers
  declarations-say-yes m h = (groups_none (declarations m) _ h).0

  -- nor among those over the slots
  pub slots-say-yes : (m : El manifest) → first_failing bound revision m ≡ 0 → first (slots m) ≡ 0
  unfolding first_failing answers
  slots-say-yes m h = (groups_none (slots m) _ (groups_none (references m) _ (groups_none (declarations m) _ h).1).1).0

  -- nor among those over the input definitions
  pub inputs-say-yes : (m : El manifest) → first_failing bound revision m ≡ 0 → first (input_definitions_hold m) ≡ 0
  unfolding first_failing answers
  inputs-say-yes m h =
      (groups_none (input_definitions_hold m) _
      (groups_none (boundaries m) _ (groups_none (slots m) _ (groups_none (references m) _ (groups_none (declarations m) _ h).1).1).1).1).0

  -- where `decode_manifest` accepts, there is a manifest
  pub accepted-got : (s : List ℕ) (base : ℕ) (index : List ℕ) → IsOk (decode_manifest bound s base revision index)
      → (m : El manifest) × (n : ℕ) × (judge bound revision s (length index) ≡ got m n)
  unfolding decode_manifest
  accepted-got s base index e = decoded-got base s (judge bound revision s (length index)) e
