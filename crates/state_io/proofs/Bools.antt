-- Laws of `all` and `any` on plain lists: of a permutation, of a map, of one element.
use Prim.Native.Nat.{ℕ, zero, suc, ◌<◌}
use native.Mathlib.Omega.{arith}
use mathlib.Core.Path.{◌≡◌, refl, ◌∙◌}
use mathlib.Core.Bool.{Bool, true, false, cond, ◌&&◌, or-true}
use Rattle.std.proofs.lemmas.Bool.{and_parts as both}
use mathlib.Core.List.{List, [], ◌∷◌, map, Permᴰ}
use lib.ListN.{length, get_or}
use Rattle.std.specs.Prelude.{Some, None}
use Rattle.state_index.proofs.Sorting.{or_swap}
use Rattle.questions.specs.Sets.{all, any}
use Rattle.questions.proofs.Sets.{all_map}

-- what is there only where a test passes
module _ {A : Type 0} where
  pub some_then : (b : Bool) {c n : A} → cond b (Some c) None ≡ Some n → (b ≡ true) × (c ≡ n)
  some_then true e = (refl, cc)
  some_then false e = cc

  pub none_then : (b : Bool) (c : A) → cond b (Some c) None ≡ None → b ≡ false
  none_then true c e = cc
  none_then false c e = refl

and-swap : (p q r : Bool) → (p && (q && r)) ≡ (q && (p && r))
and-swap true q r = refl
and-swap false true r = refl
and-swap false false r = refl

module _ {A : Type 0} where
  pub all-ext : (t u : A → Bool) → ((x : A) → t x ≡ u x) → (l : List A) → all t l ≡ all u l
  unfolding all
  all-ext t u h [] = refl
  all-ext t u h (x ∷ l) = rw (h x, all-ext t u h l)

  pub all-perm : (t : A → Bool) {l r : List A} → Permᴰ l r → all t l ≡ all t r
  unfolding all
  all-perm t Permᴰ.nil = refl
  all-perm t (Permᴰ.cons e p) = rw (e, all-perm t p)
  all-perm t (Permᴰ.swap {a = a} {b = b} {l = l} e f) = rw (← e, ← f) (and-swap (t a) (t b) (all t l))
  all-perm t (Permᴰ.trans p q) = all-perm t p ∙ all-perm t q

  pub any-perm : (t : A → Bool) {l r : List A} → Permᴰ l r → any t l ≡ any t r
  unfolding any
  any-perm t Permᴰ.nil = refl
  any-perm t (Permᴰ.cons e p) = rw (e, any-perm t p)
  any-perm t (Permᴰ.swap {a = a} {b = b} {l = l} e f) = rw (← e, ← f) (or_swap (t a) (t b) (any t l))
  any-perm t (Permᴰ.trans p q) = any-perm t p ∙ any-perm t q

-- of each with each
pub pairs-map : {A B : Type 0} (r : A → A → Bool) (f : B → A) (l : List B)
    → all (λ x. all (r x) (map f l)) (map f l) ≡ all (λ x. all (λ y. r (f x) (f y)) l) l
pairs-map r f l =
    all_map (λ x. all (r x) (map f l)) f l
    ∙ all-ext (λ x. all (r (f x)) (map f l)) (λ x. all (λ y. r (f x) (f y)) l) (λ x. all_map (r (f x)) f l) l

-- ---- of the element at a place
module _ (t : ℕ → Bool) where
  pub all-at : (l : List ℕ) → all t l ≡ true → (j : ℕ) → j < length l → t (get_or l j 0) ≡ true
  unfolding all
  all-at [] e j h = absurd (omega arith)
  all-at (x ∷ l) e zero h = (both (t x) (all t l) e).0
  all-at (x ∷ l) e (suc j) h = all-at l (both (t x) (all t l) e).1 j (omega arith)

  pub any_at : (l : List ℕ) (j : ℕ) → j < length l → t (get_or l j 0) ≡ true → any t l ≡ true
  unfolding any
  any_at [] j h e = absurd (omega arith)
  any_at (x ∷ l) zero h e = rw e
  any_at (x ∷ l) (suc j) h e = rw (any_at l j (omega arith) e) (or-true (t x))
