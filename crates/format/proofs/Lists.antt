-- Laws of byte strings in lists, and of lists.
use Prim.Native.Nat.{ℕ}
use mathlib.Core.Path.{◌≡◌, refl, sym, ap, ◌∙◌}
use mathlib.Core.Bool.{Bool, true, false, ◌||◌, ◌&&◌, true≢false}
use mathlib.Core.List.{List, [], ◌∷◌, ◌++◌, map}
use lib.ListN.{length}
use Rattle.std.specs.Ordering.{is_eq}
use Rattle.std.specs.declared.cmp.Ordering.{Ordering}
use Rattle.std.specs.declared.cmp.Ordering.TheVariants.{Less, Equal, Greater}
use Rattle.order.specs.Lex.{lex_compare}
use Rattle.order.proofs.Laws.{lex-equal-iff}
use Rattle.std.proofs.lemmas.Bool.{and_parts as both}
use Rattle.format.specs.Lists.{same, is_in}
use Rattle.format.specs.Admits.{All}

-- ---- `same` is equality
pub same_true : (x y : List ℕ) → same x y ≡ true → x ≡ y
same_true x y e = (lex-equal-iff x y).0 (equal (lex_compare x y) e)
  where
    equal : (o : Ordering) → is_eq o ≡ true → o ≡ Equal
    equal Less h = absurd (true≢false (sym h))
    equal Equal h = refl
    equal Greater h = absurd (true≢false (sym h))

pub same_of : (x y : List ℕ) → x ≡ y → same x y ≡ true
same_of x y e = ap is_eq ((lex-equal-iff x y).1 e)

pub same_refl : (x : List ℕ) → same x x ≡ true
same_refl x = same_of x x refl

pub same-apart : (x y : List ℕ) → (x ≡ y → ⊥) → same x y ≡ false
same-apart x y h = go (same x y) refl
  where
    go : (b : Bool) → same x y ≡ b → b ≡ false
    go true e = absurd (h (same_true x y e))
    go false e = refl

pub same_differs : (x y : List ℕ) → same x y ≡ false → x ≡ y → ⊥
same_differs x y e i = true≢false (sym (same_refl x) ∙ ap (same x) i ∙ e)

pub same-sym : (x y : List ℕ) → same x y ≡ same y x
same-sym x y = go (same x y) refl
  where
    go : (b : Bool) → same x y ≡ b → b ≡ same y x
    go true e = rw (same_true x y e, same_refl y)
    go false e = sym (same-apart y x (λ i. same_differs x y e (sym i)))

-- a test that says yes just of equal strings
pub same-told : (x y : List ℕ) (b : Bool) → (b ≡ true → x ≡ y) × (x ≡ y → b ≡ true) → b ≡ same x y
same-told x y true h = sym (same_of x y (h.0 refl))
same-told x y false h = sym (same-apart x y (λ e. true≢false (sym (h.1 e))))

-- strings of different lengths differ
pub same-lengths : (x y : List ℕ) → (length x ≡ length y → ⊥) → same x y ≡ false
same-lengths x y h = same-apart x y (λ e. h (ap length e))

-- ---- membership
pub in-append : (k : List ℕ) (xs ys : List (List ℕ)) → is_in k (xs ++ ys) ≡ (is_in k xs || is_in k ys)
unfolding is_in
in-append k [] ys = refl
in-append k (x ∷ xs) ys = go (same k x) (in-append k xs ys)
  where
    go : (b : Bool) → is_in k (xs ++ ys) ≡ (is_in k xs || is_in k ys) → (b || is_in k (xs ++ ys)) ≡ ((b || is_in k xs) || is_in k ys)
    go true e = refl
    go false e = e

-- ---- two functions that answer alike over a list do so on each element
pub alike-each : {A B : Type 0} (f g : A → B) (xs : List A) → map f xs ≡ map g xs → All (λ x. f x ≡ g x) xs
alike-each f g [] e = tt
alike-each f g (x ∷ xs) e = (cc e, alike-each f g xs (cc e))

-- the same as a test of answers tells it, which finds a row that is wrong sooner
module _ {A B : Type 0} (same : B → B → Bool) (sound : (a b : B) → same a b ≡ true → a ≡ b) (f g : A → B) where
  abbrev pub told : List A → Bool
  told [] = true
  told (x ∷ xs) = same (f x) (g x) && told xs

  pub told_each : (xs : List A) → told xs ≡ true → All (λ x. f x ≡ g x) xs
  told_each [] e = tt
  told_each (x ∷ xs) e = let p = both _ _ e in (sound (f x) (g x) p.0, told_each xs p.1)
