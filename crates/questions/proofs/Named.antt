-- The block that a slot names, and so what question 22 asks of it.
use Prim.Native.Nat.{ℕ}
use mathlib.Core.Path.{◌≡◌, refl, sym}
use mathlib.Core.Bool.{Bool, true, false, not, ◌&&◌, ◌||◌}
use mathlib.Core.List.{List, [], ◌∷◌, map}
use lib.Dec.{eqb}
use Rattle.format.specs.Lists.{before, same}
use Rattle.format.specs.Format.{encode}
use Rattle.format.specs.Keys.{block_key}
use Rattle.format.specs.Manifest.{blocks, state_slots}
use Rattle.format.specs.Fields.{Entry, block_key_of, state_len, slot_length}
use Rattle.format.specs.Admits.{All}
use Rattle.format.proofs.Lists.{same_refl, same-apart}
use Rattle.format.proofs.Pairwise.{before-apart}
use Rattle.questions.specs.Sets.{all}
use Rattle.questions.specs.Slots.{slot_name, length_is}
use Rattle.questions.proofs.Kept.{all_two, all_of_map}
use Rattle.questions.proofs.Ascends.{Ascends}

-- a block's name
abbrev pub block_name : Entry blocks → List ℕ
block_name b = encode block_key (block_key_of b)

-- ---- a test of all that have a name asks the one that has it
module _ {A : Type 0} (name : A → List ℕ) where
  -- asked of one that has the name k, yes for any other
  abbrev asks : List ℕ → (A → Bool) → A → Bool
  asks k u x = not (same (name x) k) || u x

  -- x is the only one of its name
  abbrev pub Alone : List A → A → Type 0
  Alone xs x = (u : A → Bool) → all (asks (name x) u) xs ≡ u x

  -- one of another name says yes
  asks-other : (k : List ℕ) (u : A → Bool) (x : A) → (name x ≡ k → ⊥) → asks k u x ≡ true
  asks-other k u x h = rw (same-apart (name x) k h)

  -- so do all whose names come later
  none-asked : (k : List ℕ) (u : A → Bool) (xs : List A) → All (λ x. before k (name x) ≡ true) xs → all (asks k u) xs ≡ true
  unfolding all
  none-asked k u [] h = refl
  none-asked k u (x ∷ xs) h = rw (asks-other k u x (λ e. before-apart k (name x) h.0 (sym e)), none-asked k u xs h.1)

  -- where names ascend each is the only one of its name
  pub each-alone : (xs : List A) → Ascends (map name xs) → All (Alone xs) xs
  unfolding all
  each-alone [] a = tt
  each-alone (x ∷ xs) a =
      let h = all_of_map name (λ k. before (name x) k ≡ true) xs a.0 in
      (here h, all_two later xs h (each-alone xs a.1))
    where
      and-true : (b : Bool) → (b && true) ≡ b
      and-true true = refl
      and-true false = refl

      here : All (λ y. before (name x) (name y) ≡ true) xs → Alone (x ∷ xs) x
      here h u = rw (same_refl (name x), none-asked (name x) u xs h) (and-true (u x))

      later : (y : A) → before (name x) (name y) ≡ true → Alone xs y → Alone (x ∷ xs) y
      later y h p u = rw (asks-other (name y) u x (before-apart (name x) (name y) h)) (p u)

-- ---- 22 of a slot that names this block, which is alone of its name
pub length-is : (bs : List (Entry blocks)) (b : Entry blocks) (e : Entry state_slots) → Alone block_name bs b → slot_name e ≡ block_name b → length_is bs e ≡ eqb (slot_length e) (state_len b)
unfolding length_is
length-is bs b e a h = rw h (a (λ x. eqb (slot_length e) (state_len x)))
