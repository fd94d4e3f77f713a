-- Names in rows that are as long as the longest.
use Prim.Native.Nat.{ℕ, zero, suc, ◌-◌, ◌<◌, ◌≤◌}
use native.Mathlib.Omega.{arith}
use mathlib.Core.Path.{◌≡◌, refl, sym, ap, ◌∙◌}
use mathlib.Core.Bool.{Bool, true, false, ◌&&◌}
use mathlib.Core.List.{List, [], ◌∷◌, ◌++◌, map}
use lib.ListN.{length, get_or, take, replicate}
use lib.Seq.{take-append_seam}
use lib.Dec.{leb, eqb}
use lib.Pointwise.{pointwise}
use Rattle.std.proofs.lemmas.List.{get_or-take}
use borrow.Author.Tests.{leb-true, eqb-true, eqb-false, eq-eqb}
use Rattle.std.proofs.lemmas.Bool.{and_parts as both}
use Rattle.format.specs.Lists.{same}
use Rattle.format.proofs.Lists.{same-lengths, same-apart, same-told}
use Rattle.state_portability.specs.declared.TheConstants.{TARGET_BOUND_LENGTHS, TARGET_BOUND_CLASSES}
use Rattle.questions.specs.Sets.{all}
use Rattle.questions.specs.Portability.{ascii, target_bound_classes}

-- a name, and zeros behind it
abbrev pub pad : (b : ℕ) → List ℕ → List ℕ
pad b n = n ++ replicate (b - length n) 0

-- what a test says of each name
each-is : (t : List ℕ → Bool) (names : List (List ℕ)) → all t names ≡ true → (k : ℕ) → k < length names → t (get_or names k []) ≡ true
unfolding all
each-is t [] e k h = absurd (omega arith)
each-is t (n ∷ ns) e zero h = (both (t n) (all t ns) e).0
each-is t (n ∷ ns) e (suc k) h = each-is t ns (both (t n) (all t ns) e).1 k (omega arith)

-- what a list made of the names has at a name's place
at-name : {A : Type 0} (f : List ℕ → A) (d : A) → f [] ≡ d → (names : List (List ℕ)) (k : ℕ) → get_or (map f names) k d ≡ f (get_or names k [])
at-name f d e [] k = sym e
at-name f d e (n ∷ ns) zero = refl
at-name f d e (n ∷ ns) (suc k) = at-name f d e ns k

row-pad : (names : List (List ℕ)) (k : ℕ) → take (length (get_or names k [])) (get_or (map (pad 46) names) k []) ≡ get_or names k []
row-pad [] k = refl
row-pad (n ∷ ns) zero = take-append_seam n (replicate (46 - length n) 0)
row-pad (n ∷ ns) (suc k) = row-pad ns k

-- as code compares bytes
pub bytes-same : (x y : List ℕ) → pointwise eqb x y ≡ same x y
bytes-same x y = same-told x y (pointwise eqb x y) (forth x y, λ e. rw e (back y))
  where
    forth : (x y : List ℕ) → pointwise eqb x y ≡ true → x ≡ y
    forth [] [] h = refl
    forth [] (b ∷ y) h = cc
    forth (a ∷ x) [] h = cc
    forth (a ∷ x) (b ∷ y) h = let p = both (eqb a b) (pointwise eqb x y) h in rw (eqb-true a b p.0, forth x y p.1)

    back : (x : List ℕ) → pointwise eqb x x ≡ true
    back [] = refl
    back (a ∷ x) = rw (eq-eqb a a refl, back x)

-- ---- the rows of the classes that depend on the target
module _ (k : ℕ) where
  abbrev row : List ℕ
  row = get_or target_bound_classes k []

  pub row_long : get_or TARGET_BOUND_LENGTHS k 0 ≡ length row
  unfolding target_bound_classes ascii
  row_long = at-name length 0 refl target_bound_classes k

  pub row_front : take (get_or TARGET_BOUND_LENGTHS k 0) (get_or TARGET_BOUND_CLASSES k []) ≡ row
  unfolding target_bound_classes ascii
  row_front = ap (λ (n : ℕ). take n (get_or TARGET_BOUND_CLASSES k [])) row_long ∙ row-pad target_bound_classes k

  pub row_fits : k < 15 → (1 ≤ length row) × (length row ≤ 46)
  unfolding target_bound_classes ascii all
  row_fits h =
      let p = both (leb 1 (length row)) (leb (length row) 46) (each-is (λ n. leb 1 (length n) && leb (length n) 46) target_bound_classes refl k h) in
      (leb-true 1 (length row) p.0, leb-true (length row) 46 p.1)

  last_byte : k < 15 → get_or row (get_or TARGET_BOUND_LENGTHS k 0 - 1) 0 ≡ get_or (get_or TARGET_BOUND_CLASSES k []) (get_or TARGET_BOUND_LENGTHS k 0 - 1) 0
  last_byte h =
      let n = get_or TARGET_BOUND_LENGTHS k 0 in
      ap (λ (l : List ℕ). get_or l (n - 1) 0) (sym row_front) ∙ get_or-take n _ (n - 1) 0 (omega (arith, row_long, row_fits h))

  module _ (class : List ℕ) where
    pub other_length : (length class ≡ get_or TARGET_BOUND_LENGTHS k 0 → ⊥) → false ≡ same class row
    other_length h = sym (same-lengths class row (λ e. h (e ∙ sym row_long)))

    -- a last byte that is not the row's, where it is compared with the byte that stands there
    pub other_end : k < 15 → {r : Bool} → r ≡ eqb (get_or class (get_or TARGET_BOUND_LENGTHS k 0 - 1) 0) (get_or (get_or TARGET_BOUND_CLASSES k []) (get_or TARGET_BOUND_LENGTHS k 0 - 1) 0) → r ≡ false → r ≡ same class row
    other_end h i n = n ∙ sym (same-apart class row (λ e. eqb-false _ _ (sym i ∙ n) (rw e (last_byte h))))
