-- Questions 12 to 14: what is left to ask after some entries, and what is answered of blocks.
use Prim.Native.Nat.{ℕ, suc, ◌+◌, ◌-◌, ◌≤◌, ◌<◌}
use native.Mathlib.Omega.{arith}
use native.Mathlib.Numerals.{add-one}
use mathlib.Core.Path.{◌≡◌, refl, sym, ap, ◌∙◌}
use mathlib.Core.Bool.{Bool, true, false, ◌&&◌}
use mathlib.Core.List.{List, [], ◌∷◌, map}
use lib.ListN.{length, get_or, drop, drop_of_length-le}
use lib.Seq.{drop-cons}
use Rattle.std.specs.Prelude.{Result, Ok, Err}
use Rattle.state.specs.declared.Question.{Question}
use Rattle.state.specs.Bytes.{AreBytes}
use Rattle.state.specs.Outcome.{said}
use Rattle.format.specs.Admits.{All}
use Rattle.format.specs.Format.{Fmt}
use Rattle.format.specs.Manifest.{entry, enums, blocks}
use Rattle.format.specs.Fields.{Entry}
use Rattle.format.specs.Places.{past}
use Rattle.format.specs.Values.{value_at, Well}
use Rattle.questions.specs.Sets.{◌unless◌, first}
use Rattle.questions.specs.Declarations.{kind_holds, params_hold, block_answer}
use Rattle.questions.proofs.Chains.{answered-yes, answered-no}
use Rattle.state_layout.specs.Keys.{classes_of}
use Rattle.state_layout.proofs.Tables.{limit}
use Rattle.state_declarations.specs.Each.{inputs_at, outputs_at, are_ports, each_from}
use Rattle.state_declarations.proofs.Parts.{key-at, key-well, inputs-at, outputs-at, inputs-well, outputs-well, ports-hold}

-- of a list the entries from place i on, at p
module _ (entry : Fmt) (s : List ℕ) (test : ℕ → ℕ → Bool) (n i p : ℕ) {r : Bool} (h : each_from entry s test i (n - i) p ≡ r) where
  module _ (l : i < n) {b : Bool} (j : b ≡ test i p) where
    pub each-no : b ≡ false → false ≡ r
    unfolding each_from
    each-no k = let d : n - i ≡ suc (n - (i + 1)) = omega arith in rw (sym j ∙ k) at (rw d at h)

    pub each-next : b ≡ true → {e : ℕ} → e ≡ past entry s p → each_from entry s test (i + 1) (n - (i + 1)) e ≡ r
    unfolding each_from
    each-next k q =
        let d : n - i ≡ suc (n - (i + 1)) = omega arith in
        let a : i + 1 ≡ suc i = omega arith in
        rw (a, q) (rw a at (rw (sym j ∙ k) at (rw d at h)))

  pub each-end : n ≤ i → true ≡ r
  unfolding each_from
  each-end l = let d : n - i ≡ 0 = omega arith in rw d at h

-- ---- one block
module _ (es : List (Entry enums)) (s : List ℕ) (at : ℕ) {x : Bool} (ex : x ≡ kind_holds (value_at (entry blocks) s at)) where
  abbrev answered : ℕ
  answered = block_answer es (value_at (entry blocks) s at)

  pub block_12 : x ≡ false → Err (record { 0 = 12 }) ≡ said answered
  unfolding block_answer first ◌unless◌
  block_12 h = rw (← ex, h)

  module _ (hx : x ≡ true) {y : Bool} (ey : y ≡ params_hold es (value_at (entry blocks) s at)) where
    pub block_13 : y ≡ false → Err (record { 0 = 13 }) ≡ said answered
    unfolding block_answer first ◌unless◌
    block_13 h = rw (← ex, hx, ← ey, h)

    module _ (hy : y ≡ true) (bytes : AreBytes s) (w : Well limit (entry blocks) s at) {z : Bool} (ez : z ≡ (are_ports s at 0 (inputs_at s at) && are_ports s at 1 (outputs_at s at))) where
      last : answered ≡ first (14 unless z ∷ [])
      unfolding block_answer first ◌unless◌
      last = rw (
        ← ex,
        hx,
        ← ey,
        hy,
        ez,
        ports-hold s bytes at 0 (inputs_at s at) (key-well s at w) (inputs-well s at w),
        ports-hold s bytes at 1 (outputs_at s at) (key-well s at w) (outputs-well s at w),
        key-at s at,
        inputs-at s at,
        outputs-at s at,
      )

      pub block_14 : z ≡ false → Err (record { 0 = 14 }) ≡ said answered
      unfolding first ◌unless◌
      block_14 h = rw (last, h)

      pub block_yes : z ≡ true → Ok tt ≡ said answered
      unfolding first ◌unless◌
      block_yes h = rw (last, h)

pub ruleset block = (block_12, block_13, block_14, block_yes)

-- ---- block by block: of those that words list, those from word i on
abbrev answers : (s classes words : List ℕ) → ℕ
answers s classes words = first (map (block_answer (classes_of s classes)) (map (value_at (entry blocks) s) words))

pub record BlocksLeft (s classes words : List ℕ) (i : ℕ) : Type 0 where
  pub well : All (Well limit (entry blocks) s) (drop i words)
  pub is : answers s classes (drop i words) ≡ answers s classes words

module _ {s classes words : List ℕ} {i : ℕ} (h : BlocksLeft s classes words i) where
  module _ (l : i < length words) where
    parted : drop i words ≡ get_or words i 0 ∷ drop (i + 1) words
    parted = rw (add-one i, drop-cons words i 0 l)

    module _ {r : Result Unit Question} (j : r ≡ said (block_answer (classes_of s classes) (value_at (entry blocks) s (get_or words i 0)))) where
      pub blocks-next : r ≡ Ok tt → BlocksLeft s classes words (i + 1)
      blocks-next y = record { well = (rw parted at h.well).1; is = answered-yes _ j y _ ∙ rw parted at h.is }

      pub blocks-no : {d : Question} → r ≡ Err d → Err d ≡ said (answers s classes words)
      blocks-no n = answered-no _ j n _ ∙ ap said (rw parted at h.is)

  pub blocks-end : length words ≤ i → Ok tt ≡ said (answers s classes words)
  unfolding first
  blocks-end l = ap said (rw (drop_of_length-le words l) at h.is)
