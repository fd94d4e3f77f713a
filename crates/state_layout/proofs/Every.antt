-- What `all` over words comes to: the definition of that name.
use Prim.Native.Nat.{ℕ, zero, suc, ◌<◌}
use native.Mathlib.Omega.{arith}
use mathlib.Core.Path.{◌≡◌, refl, sym}
use mathlib.Core.Bool.{Bool, true, false, and-false}
use mathlib.Core.List.{List, [], ◌∷◌}
use lib.ListN.{length}
use Rattle.std.specs.Bool.{MatchBool}
use Rattle.std.specs.List.{AllWithin, HoldsAt}
use Rattle.questions.specs.Sets.{all}

module _ {A : Type 0} (t : A → Bool) where
  yes : (l : List A) → AllWithin (λ x. t x ≡ true) l 0 (length l) → all t l ≡ true
  unfolding all
  yes [] h = refl
  yes (x ∷ l) h = rw (h zero x (omega arith) (omega arith)) (yes l (λ k d i j. h (suc k) d (omega arith) (omega arith)))

  no : (l : List A) (k : ℕ) → k < length l → HoldsAt (λ x. t x ≡ false) l k → all t l ≡ false
  unfolding all
  no [] k h i = absurd (omega arith)
  no (x ∷ l) zero h i = rw (i x)
  no (x ∷ l) (suc k) h i = rw (no l k (omega arith) i) (and-false (t x))

  pub every : (r : Bool) (l : List A) → MatchBool r (AllWithin (λ x. t x ≡ true) l 0 (length l)) ((k : ℕ) × (k < length l) × HoldsAt (λ x. t x ≡ false) l k) → r ≡ all t l
  every true l h = sym (yes l h)
  every false l h = sym (no l h.0 h.1 h.2)
