-- Types that are one: `same_type` is an equivalence.
use Prim.Native.Nat.{ℕ, zero, suc, ◌≤◌}
use native.Mathlib.Omega.{arith}
use mathlib.Core.Path.{◌≡◌, refl, sym, ap, ◌∙◌}
use mathlib.Core.Bool.{Bool, true, false, cond, ◌&&◌, ◌||◌}
use mathlib.Core.List.{List, [], ◌∷◌}
use lib.ListN.{length}
use lib.Dec.{eqb}
use borrow.Author.Tests.{eqb-true, eq-eqb, ne_eqb}
use Rattle.std.proofs.lemmas.Bool.{and_parts as both}
use Rattle.format.specs.Lists.{same, is_in}
use Rattle.format.specs.Format.{El}
use Rattle.format.specs.Manifest.{value_type}
use Rattle.format.specs.Fields.{type_tag, type_class}
use Rattle.format.proofs.Lists.{same_true, same_refl}
use Rattle.questions.specs.Sets.{all, all_in}
use Rattle.questions.specs.Inputs.{same_type}
use Rattle.questions.proofs.Sets.{both_ways}

-- an enum has a class, no other type has
class-count : (t : El value_type) → length (type_class t) ≡ cond (eqb (type_tag t) 4) 1 0
unfolding value_type type_tag type_class
class-count (zero, v) = refl
class-count (suc zero, v) = refl
class-count (suc (suc zero), v) = refl
class-count (suc (suc (suc zero)), v) = refl
class-count (suc (suc (suc (suc zero))), v) = refl
class-count (suc (suc (suc (suc (suc t)))), v) = rw (ne_eqb (suc (suc (suc (suc (suc t))))) 4 (λ e. omega arith))

one-or-none : (b : Bool) → cond b 1 0 ≤ 1
one-or-none true = omega arith
one-or-none false = omega arith

one_in : (l m : List (List ℕ)) → length l ≡ length m → length l ≤ 1 → all_in l m ≡ true → l ≡ m
unfolding all_in all is_in
one_in [] [] h k e = refl
one_in [] (b ∷ m) h k e = absurd (omega arith)
one_in (a ∷ l) [] h k e = absurd (omega arith)
one_in (a ∷ []) (b ∷ []) h k e = go (same a b) refl e
  where
    go : (t : Bool) → same a b ≡ t → ((t || false) && true) ≡ true → a ∷ [] ≡ b ∷ []
    go true i e = ap (λ (z : List ℕ). z ∷ []) (same_true a b i)
    go false i e = let z : ◌≡◌ {A = ℕ} 0 1 = cc in absurd (omega arith)
one_in (a ∷ []) (b ∷ (d ∷ m)) h k e = absurd (omega arith)
one_in (a ∷ (d ∷ l)) (b ∷ m) h k e = absurd (omega arith)

in_itself : (l : List (List ℕ)) → length l ≤ 1 → all_in l l ≡ true
unfolding all_in all is_in
in_itself [] k = refl
in_itself (a ∷ []) k = rw (same_refl a)
in_itself (a ∷ (d ∷ l)) k = absurd (omega arith)

type-equal : (t u : El value_type) → same_type t u ≡ true → (type_tag t ≡ type_tag u) × (type_class t ≡ type_class u)
unfolding same_type
type-equal t u e =
    let b = both (eqb (type_tag t) (type_tag u)) (all_in (type_class t) (type_class u)) e in
    let i : type_tag t ≡ type_tag u = eqb-true (type_tag t) (type_tag u) b.0 in
    let l : length (type_class t) ≤ 1 = rw (class-count t) (one-or-none (eqb (type_tag t) 4)) in
    (i, one_in (type_class t) (type_class u) (class-count t ∙ ap (λ (k : ℕ). cond (eqb k 4) 1 0) i ∙ sym (class-count u)) l b.1)

equal-type : (t u : El value_type) → type_tag t ≡ type_tag u → type_class t ≡ type_class u → same_type t u ≡ true
unfolding same_type
equal-type t u i j =
    let l : length (type_class u) ≤ 1 = rw (class-count u) (one-or-none (eqb (type_tag u) 4)) in
    rw (eq-eqb (type_tag t) (type_tag u) i, j) (in_itself (type_class u) l)

pub type-refl : (t : El value_type) → same_type t t ≡ true
type-refl t = equal-type t t refl refl

pub type-trans : (t u v : El value_type) → same_type t u ≡ true → same_type u v ≡ true → same_type t v ≡ true
type-trans t u v p q =
    let a = type-equal t u p in
    let b = type-equal u v q in
    equal-type t v (a.0 ∙ b.0) (a.1 ∙ b.1)

turn : (t u : El value_type) → same_type t u ≡ true → same_type u t ≡ true
turn t u p = let a = type-equal t u p in equal-type u t (sym a.0) (sym a.1)

pub type-sym : (t u : El value_type) → same_type t u ≡ same_type u t
type-sym t u = both_ways (same_type t u) (same_type u t) (turn t u) (turn u t)
