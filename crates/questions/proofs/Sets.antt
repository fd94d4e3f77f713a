-- Laws of tests and of the tests of lists.
use Prim.Native.Nat.{ℕ}
use mathlib.Core.Path.{◌≡◌, refl, sym}
use mathlib.Core.Bool.{Bool, true, false, ◌&&◌, ◌||◌, and-false, or-true}
use mathlib.Core.List.{List, [], ◌∷◌, map}
use Rattle.std.proofs.lemmas.Bool.{and_parts as both}
use Rattle.format.specs.Lists.{same, is_in}
use Rattle.format.proofs.Lists.{same_refl, same_true}
use Rattle.questions.specs.Sets.{all, any}

-- each says yes where the other does
pub both_ways : (p q : Bool) → (p ≡ true → q ≡ true) → (q ≡ true → p ≡ true) → p ≡ q
both_ways true q f g = sym (f refl)
both_ways false true f g = g refl
both_ways false false f g = refl

-- one of two says yes; one of two says no
pub or_cases : {P : Type 0} (b c : Bool) → (b ≡ true → P) → (c ≡ true → P) → (b || c) ≡ true → P
or_cases true c f g e = f refl
or_cases false c f g e = g e

pub and_cases : {P : Type 0} (b c : Bool) → (b ≡ false → P) → (c ≡ false → P) → (b && c) ≡ false → P
and_cases true c f g e = g e
and_cases false c f g e = f refl

module _ {A : Type 0} where
  pub all_both : (t u : A → Bool) (l : List A) → all (λ x. t x && u x) l ≡ (all t l && all u l)
  unfolding all
  all_both t u [] = refl
  all_both t u (x ∷ l) = go (t x) (u x) (all_both t u l)
    where
      go : (p q : Bool) → all (λ x. t x && u x) l ≡ (all t l && all u l) → ((p && q) && all (λ x. t x && u x) l) ≡ ((p && all t l) && (q && all u l))
      go true true e = e
      go true false e = sym (and-false (all t l))
      go false q e = refl

  pub all_map : {B : Type 0} (t : A → Bool) (f : B → A) (l : List B) → all t (map f l) ≡ all (λ x. t (f x)) l
  unfolding all
  all_map t f [] = refl
  all_map t f (x ∷ l) = rw (all_map t f l)

  -- all that pass a test pass a weaker one
  pub all_weaker : (t u : A → Bool) → ((x : A) → t x ≡ true → u x ≡ true) → (xs : List A) → all t xs ≡ true → all u xs ≡ true
  unfolding all
  all_weaker t u h [] e = refl
  all_weaker t u h (x ∷ xs) e = let b = both (t x) (all t xs) e in rw (h x b.0, all_weaker t u h xs b.1)

  -- one that passes a test passes a weaker one
  pub any-weaker : (t u : A → Bool) → ((x : A) → t x ≡ true → u x ≡ true) → (xs : List A) → any t xs ≡ true → any u xs ≡ true
  unfolding any
  any-weaker t u h [] e = e
  any-weaker t u h (x ∷ xs) e = or_cases (t x) (any t xs) (λ i. rw (h x i)) (λ i. rw (any-weaker t u h xs i, or-true)) e

-- ---- membership
-- what is in a list is its first or in the rest
pub in-cases : {P : Type 0} (k l : List ℕ) (ls : List (List ℕ)) → (k ≡ l → P) → (is_in k ls ≡ true → P) → is_in k (l ∷ ls) ≡ true → P
unfolding is_in
in-cases k l ls f g e = or_cases (same k l) (is_in k ls) (λ i. f (same_true k l i)) g e

-- a list has its first, and what is in the rest of it
pub in-front : (k : List ℕ) (ks : List (List ℕ)) → is_in k (k ∷ ks) ≡ true
unfolding is_in
in-front k ks = rw (same_refl k)

pub in_rest : (k l : List ℕ) (ks : List (List ℕ)) → is_in k ks ≡ true → is_in k (l ∷ ks) ≡ true
unfolding is_in
in_rest k l ks e = go (same k l)
  where
    go : (b : Bool) → (b || is_in k ks) ≡ true
    go true = refl
    go false = e
