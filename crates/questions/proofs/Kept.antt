-- What holds of each of a list: of those kept, mapped, permuted.
use mathlib.Core.Path.{◌≡◌, refl, subst}
use mathlib.Core.Bool.{Bool, true, false, cond}
use mathlib.Core.List.{List, [], ◌∷◌, map, Permᴰ}
use Rattle.std.proofs.lemmas.Bool.{and_parts as both}
use Rattle.format.specs.Admits.{All}
use Rattle.questions.specs.Sets.{all, keep}

module _ {A : Type 0} where
  -- what follows from two things of each
  pub all_two : {P Q R : A → Type 0} → ((x : A) → P x → Q x → R x) → (xs : List A) → All P xs → All Q xs → All R xs
  all_two f [] p q = tt
  all_two f (x ∷ xs) p q = (f x p.0 q.0, all_two f xs p.1 q.1)

  -- what follows from one thing of each
  pub all_so : {P Q : A → Type 0} → ((x : A) → P x → Q x) → (xs : List A) → All P xs → All Q xs
  all_so f xs p = all_two (λ x a b. f x a) xs p p

  -- a test that all pass, each does, and back
  pub all-each : (t : A → Bool) (xs : List A) → all t xs ≡ true → All (λ x. t x ≡ true) xs
  unfolding all
  all-each t [] h = tt
  all-each t (x ∷ xs) h = let b = both (t x) (all t xs) h in (b.0, all-each t xs b.1)

  pub each_all : (t : A → Bool) (xs : List A) → All (λ x. t x ≡ true) xs → all t xs ≡ true
  unfolding all
  each_all t [] h = refl
  each_all t (x ∷ xs) h = rw (h.0, each_all t xs h.1)

  -- of each of a mapped list, and back
  pub all_of_map : {B : Type 0} (f : B → A) (P : A → Type 0) (xs : List B) → All P (map f xs) → All (λ x. P (f x)) xs
  all_of_map f P [] p = tt
  all_of_map f P (x ∷ xs) p = (p.0, all_of_map f P xs p.1)

  pub all-to-map : {B : Type 0} (f : B → A) (P : A → Type 0) (xs : List B) → All (λ x. P (f x)) xs → All P (map f xs)
  all-to-map f P [] p = tt
  all-to-map f P (x ∷ xs) p = (p.0, all-to-map f P xs p.1)

  -- those kept have what all have, and pass the test
  pub keep_all : (t : A → Bool) (P : A → Type 0) (xs : List A) → All P xs → All (λ x. P x × (t x ≡ true)) (keep t xs)
  unfolding keep
  keep_all t P [] p = tt
  keep_all t P (x ∷ xs) p = go (t x) refl (keep_all t P xs p.1)
    where
      go : (b : Bool) → t x ≡ b → All (λ x. P x × (t x ≡ true)) (keep t xs) → All (λ x. P x × (t x ≡ true)) (cond b (x ∷ keep t xs) (keep t xs))
      go true h ih = ((p.0, h), ih)
      go false h ih = ih

-- of each of a permuted list
pub all-perm : {A : Type 0} (P : A → Type 0) {l r : List A} → Permᴰ l r → All P l → All P r
all-perm P Permᴰ.nil h = h
all-perm P (Permᴰ.cons e p) h = (subst P e h.0, all-perm P p h.1)
all-perm P (Permᴰ.swap e f) h = (subst P f h.1.0, (subst P e h.0, h.1.1))
all-perm P (Permᴰ.trans p q) h = all-perm P q (all-perm P p h)
