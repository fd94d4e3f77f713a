-- Lists kept of lists mapped.
use Prim.Native.Nat.{ℕ}
use native.Mathlib.Omega.{arith}
use mathlib.Core.Path.{◌≡◌, refl, ap}
use mathlib.Core.Bool.{Bool, true, false, cond}
use mathlib.Core.List.{List, [], ◌∷◌, map}
use lib.ListN.{length}
use Rattle.format.specs.Admits.{All}
use Rattle.format.proofs.Lists.{alike-each}
use Rattle.questions.specs.Sets.{keep}
use Rattle.questions.proofs.Kept.{keep_all}

module _ {A B : Type 0} where
  pub keep-map : (f : A → B) (t : B → Bool) (xs : List A) → keep t (map f xs) ≡ map f (keep (λ x. t (f x)) xs)
  unfolding keep
  keep-map f t [] = refl
  keep-map f t (x ∷ xs) = go (t (f x)) (keep-map f t xs)
    where
      go : (b : Bool) → keep t (map f xs) ≡ map f (keep (λ x. t (f x)) xs) → cond b (f x ∷ keep t (map f xs)) (keep t (map f xs)) ≡ map f (cond b (x ∷ keep (λ x. t (f x)) xs) (keep (λ x. t (f x)) xs))
      go true ih = ap (◌∷◌ (f x)) ih
      go false ih = ih

  -- two functions that answer alike over a list do so over those kept of it
  pub keep-alike : (f g : A → B) (t : A → Bool) (xs : List A) → map f xs ≡ map g xs → map f (keep t xs) ≡ map g (keep t xs)
  keep-alike f g t xs e = one_by_one (keep t xs) (keep_all t (λ x. f x ≡ g x) xs (alike-each f g xs e))
    where
      one_by_one : (xs : List A) → All (λ x. (f x ≡ g x) × (t x ≡ true)) xs → map f xs ≡ map g xs
      one_by_one [] a = refl
      one_by_one (x ∷ xs) a = rw (a.0.0, one_by_one xs a.1)

pub empty : (l : List ℕ) → length l ≡ 0 → l ≡ []
empty [] h = refl
empty (x ∷ l) h = absurd (omega arith)
