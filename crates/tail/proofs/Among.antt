-- Keys that are among others; and keys that ascend, each among others that ascend: they are no more, and where they are as many they are those.
use Prim.Native.Nat.{ℕ, ◌≤◌}
use native.Mathlib.Omega.{arith}
use mathlib.Core.Path.{◌≡◌, refl, subst}
use mathlib.Core.Bool.{true, or-true, false≢true}
use mathlib.Core.List.{List, [], ◌∷◌, ◌++◌}
use lib.ListN.{length}
use Rattle.std.proofs.lemmas.Bool.{and_parts as both}
use Rattle.format.specs.Lists.{before, is_in}
use Rattle.format.proofs.Lists.{in-append}
use Rattle.format.proofs.Pairwise.{before-trans}
use Rattle.questions.specs.Sets.{all, all_in}
use Rattle.questions.proofs.Sets.{all_weaker, in-cases}
use Rattle.questions.proofs.Kept.{all_so}
use Rattle.questions.proofs.Ascends.{Ahead, Ascends, in_all, all-in-rest}

-- ---- membership
-- what is among the first part of a list or among the second is among the list
pub all-in-front : (ks xs ys : List (List ℕ)) → all_in ks xs ≡ true → all_in ks (xs ++ ys) ≡ true
unfolding all_in
all-in-front ks xs ys h = all_weaker (λ k. is_in k xs) (λ k. is_in k (xs ++ ys)) (λ k i. rw (in-append k xs ys, i)) ks h

pub all-in-back : (ks xs ys : List (List ℕ)) → all_in ks ys ≡ true → all_in ks (xs ++ ys) ≡ true
unfolding all_in
all-in-back ks xs ys h = all_weaker (λ k. is_in k ys) (λ k. is_in k (xs ++ ys)) (λ k i. rw (in-append k xs ys, i, or-true)) ks h

-- ---- keys that ascend, each among others that ascend
-- the first is the first of those, and the rest among the rest; or all are among the rest
module _ {P : Type 0} (x y : List ℕ) (xs ys : List (List ℕ)) (a : Ascends (x ∷ xs)) (b : Ascends (y ∷ ys)) where
  steps : all_in (x ∷ xs) (y ∷ ys) ≡ true → (x ≡ y → all_in xs ys ≡ true → P) → (all_in (x ∷ xs) ys ≡ true → P) → P
  unfolding all_in all
  steps h f g =
      let p = both (is_in x (y ∷ ys)) (all_in xs (y ∷ ys)) h in
      in-cases x y ys
      (λ e. f e (all-in-rest y xs ys (subst (λ z. Ahead z xs) e a.0) p.1))
      (λ i.
      let c : before y x ≡ true = in_all (λ l. before y l ≡ true) x ys i b.0 in
      g (all-in-rest y (x ∷ xs) ys (c, all_so (λ l q. before-trans y x l c q) xs a.0) h))
      p.0

-- they are no more than those
pub no_more : (xs ys : List (List ℕ)) → Ascends xs → Ascends ys → all_in xs ys ≡ true → length xs ≤ length ys
unfolding all_in all is_in
no_more [] ys a b h = omega arith
no_more (x ∷ xs) [] a b h = absurd (false≢true h)
no_more (x ∷ xs) (y ∷ ys) a b h =
    steps x y xs ys a b h (λ _ i. omega (arith, no_more xs ys a.1 b.1 i)) (λ i. omega (arith, no_more (x ∷ xs) ys a b.1 i))

-- and where they are as many they are those
pub as_many : (xs ys : List (List ℕ)) → Ascends xs → Ascends ys → all_in xs ys ≡ true → length xs ≡ length ys → xs ≡ ys
unfolding all_in all is_in
as_many [] [] a b h l = refl
as_many [] (y ∷ ys) a b h l = absurd (omega arith)
as_many (x ∷ xs) [] a b h l = absurd (false≢true h)
as_many (x ∷ xs) (y ∷ ys) a b h l =
    steps x y xs ys a b h
    (λ e i. rw (e, as_many xs ys a.1 b.1 i (omega arith)))
    (λ i. absurd (omega (arith, no_more (x ∷ xs) ys a b.1 i)))
