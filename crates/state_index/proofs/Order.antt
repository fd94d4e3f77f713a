-- Keys in order: `before` of format is a strict order, so what does not come after is one that is total, transitive and antisymmetric.
use Prim.Native.Nat.{ℕ}
use native.Mathlib.Omega.{arith}
use mathlib.Core.Path.{◌≡◌, refl, sym, subst, ◌∙◌}
use mathlib.Core.Bool.{Bool, true, false, not}
use mathlib.Core.List.{List}
use Rattle.std.specs.Ordering.{is_lt}
use Rattle.std.specs.declared.cmp.Ordering.{Ordering}
use Rattle.std.specs.declared.cmp.Ordering.TheVariants.{Less, Equal, Greater}
use Rattle.order.specs.Lex.{lex_compare}
use Rattle.order.proofs.Laws.{lex-turned, lex-refl, lex-equal-iff, lex-trans}
use Rattle.format.specs.Lists.{before, same}

pub apart : {A : Type 0} → true ≡ false → A
apart e = let z : ◌≡◌ {A = ℕ} 0 1 = cc in absurd (omega arith)

pub is_false : (b : Bool) → (b ≡ true → ⊥) → b ≡ false
is_false true h = absurd (h refl)
is_false false h = refl

-- x does not come after y
abbrev pub leq : List ℕ → List ℕ → Bool
leq x y = not (before y x)

less-is : (o : Ordering) → not (is_lt o) ≡ false → o ≡ Less
less-is Less e = refl
less-is Equal e = apart e
less-is Greater e = apart e

module _ (x y : List ℕ) where
  pub less-not-leq : lex_compare x y ≡ Less → leq y x ≡ false
  less-not-leq e = rw e

  pub leq-total : leq x y ≡ false → leq y x ≡ true
  leq-total e = let l : lex_compare y x ≡ Less = less-is (lex_compare y x) e in rw (lex-turned y x, l)

  pub less-not-same : lex_compare x y ≡ Less → same x y ≡ false
  less-not-same e = rw e

  pub greater-not-same : lex_compare x y ≡ Greater → same x y ≡ false
  greater-not-same e = rw e

  pub leq-antisym : leq x y ≡ true → leq y x ≡ true → x ≡ y
  leq-antisym p q = go (lex_compare x y) refl
    where
      go : (o : Ordering) → lex_compare x y ≡ o → x ≡ y
      go Less h = apart (sym q ∙ less-not-leq h)
      go Equal h = (lex-equal-iff x y).0 h
      go Greater h = apart (sym p ∙ rw (lex-turned x y, h))

pub leq-refl : (x : List ℕ) → leq x x ≡ true
leq-refl x = rw (lex-refl x)

-- strictly before, and then not after
pub less_then : (x y z : List ℕ) → lex_compare x y ≡ Less → leq y z ≡ true → lex_compare x z ≡ Less
less_then x y z p q = go (lex_compare y z) refl
  where
    go : (o : Ordering) → lex_compare y z ≡ o → lex_compare x z ≡ Less
    go Less h = lex-trans x y z p h
    go Equal h = subst (λ (w : List ℕ). lex_compare x w ≡ Less) ((lex-equal-iff y z).0 h) p
    go Greater h = apart (sym q ∙ rw (lex-turned y z, h))

-- not after, and then strictly before
pub then_less : (x y z : List ℕ) → leq x y ≡ true → lex_compare y z ≡ Less → lex_compare x z ≡ Less
then_less x y z p q = go (lex_compare x y) refl
  where
    go : (o : Ordering) → lex_compare x y ≡ o → lex_compare x z ≡ Less
    go Less h = lex-trans x y z h q
    go Equal h = subst (λ (w : List ℕ). lex_compare w z ≡ Less) (sym ((lex-equal-iff x y).0 h)) q
    go Greater h = apart (sym p ∙ rw (lex-turned x y, h))
