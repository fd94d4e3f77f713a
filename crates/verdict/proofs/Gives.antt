-- What is so of every difference that a comparison can give.
use Prim.Native.Nat.{ℕ, suc}
use native.Mathlib.Omega.{arith}
use mathlib.Core.Path.{◌≡◌, refl}
use mathlib.Core.Bool.{Bool, true, false, cond}
use mathlib.Core.List.{List, [], ◌∷◌}
use lib.ListN.{length}
use Rattle.std.specs.Prelude.{Err}
use Rattle.state.specs.declared.Difference.{Difference}
use Rattle.format.specs.Lists as lists
use Rattle.format.specs.Format.{Fmt, El, encode}
use Rattle.format.specs.Admits.{All}
use Rattle.format.proofs.Lists.{same_differs}
use Rattle.verdict.specs.Verdict.{Agreement, compatible, ◌or_else◌, field, along}

-- no difference, or one of which P is so
pub data Gives (P : Difference → Type 0) : Agreement → Type 0 where
  same : Gives P compatible
  of : {d : Difference} → P d → Gives P (Err d)

-- of a difference P is so
pub given : {P : Difference → Type 0} {d : Difference} → Gives P (Err d) → P d
given (of g) = g

module _ {P : Difference → Type 0} where
  -- a field gives its difference only where the two are written differently
  pub field-gives : (f : Fmt) {a : Agreement} (v w : El f) → ((encode f v ≡ encode f w → ⊥) → Gives P a) → Gives P (field f a v w)
  unfolding field
  field-gives f {a} v w g = go (lists.same (encode f v) (encode f w)) refl
    where
      go : (b : Bool) → lists.same (encode f v) (encode f w) ≡ b → Gives P (cond b compatible a)
      go true h = same
      go false h = g (same_differs (encode f v) (encode f w) h)

  -- the first difference of two, where the second is asked only if the first is none
  pub or-gives : {a b : Agreement} → Gives P a → (a ≡ compatible → Gives P b) → Gives P (a or_else b)
  or-gives same y = y refl
  or-gives (of g) y = of g

module _ {A : Type 0} where
  -- Q is so of each entry at its place, from place j on
  abbrev pub From : (Q : ℕ → A → Type 0) → (j : ℕ) → List A → Type 0
  From Q j [] = Unit
  From Q j (x ∷ xs) = Q j x × From Q (suc j) xs

  -- nothing is asked of the entries
  pub from-any : (j : ℕ) (xs : List A) → From (λ _ _. Unit) j xs
  from-any j [] = tt
  from-any j (x ∷ xs) = (tt, from-any (suc j) xs)

  -- the same is asked at every place
  pub from_all : (Q : A → Type 0) (j : ℕ) (xs : List A) → All Q xs → From (λ _. Q) j xs
  from_all Q j [] h = tt
  from_all Q j (x ∷ xs) h = (h.0, from_all Q (suc j) xs h.1)

  module _ {P : Difference → Type 0} {Q R : ℕ → A → Type 0} {entry_at : ℕ → A → A → Agreement} {count_at : ℕ → Agreement}
      (entries : (j : ℕ) (x y : A) → Q j x → R j y → Gives P (entry_at j x y)) where
    -- the first difference of two lists is in two entries at one place, or in the count where there are not as many
    pub along-gives : (j : ℕ) (xs ys : List A) → From Q j xs → From R j ys → ((length xs ≡ length ys → ⊥) → (n : ℕ) → Gives P (count_at n)) → Gives P (along entry_at count_at j xs ys)
    unfolding along
    along-gives j [] [] q r c = same
    along-gives j [] (y ∷ ys) q r c = c (λ e. absurd (omega arith)) j
    along-gives j (x ∷ xs) [] q r c = c (λ e. absurd (omega arith)) j
    along-gives j (x ∷ xs) (y ∷ ys) q r c = or-gives (entries j x y q.0 r.0) (λ _. along-gives (suc j) xs ys q.1 r.1 (λ n. c (λ e. n (omega arith))))
