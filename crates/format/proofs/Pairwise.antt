-- What the tests of keys, one after another, say of every two of them.
use Prim.Native.Nat.{ℕ, zero, suc, ◌<◌}
use native.Mathlib.Omega.{arith}
use mathlib.Core.Path.{◌≡◌, refl, sym, ap, ◌∙◌, subst}
use mathlib.Core.Logic.{◌↔◌}
use mathlib.Core.Bool.{Bool, true, false, not, ◌&&◌, true≢false, false≢true}
use mathlib.Core.List.{List, [], ◌∷◌, ◌++◌, append-nil}
use lib.ListN.{length, get_or}
use lib.Seq.{append_snoc}
use borrow.Author.Tests.{not-true}
use Rattle.std.specs.Ordering.{is_lt}
use Rattle.std.proofs.lemmas.Bool.{and_parts as both, or_parts as neither}
use Rattle.std.specs.declared.cmp.Ordering.{Ordering}
use Rattle.std.specs.declared.cmp.Ordering.TheVariants.{Less, Equal, Greater}
use Rattle.order.specs.Lex.{lex_compare}
use Rattle.order.proofs.Laws.{lex-refl, lex-trans}
use Rattle.format.specs.Lists.{before, same, is_in, all_different}
use Rattle.format.specs.Format.{Rank, Rule, free, distinct, early, late, above}
use Rattle.format.specs.Admits.{in_order}
use Rattle.format.specs.Pairwise.{Ascending, Different}
use Rattle.format.proofs.Lists.{same_true, same_refl}

-- ---- keys that ascend
pub before-trans : (x y z : List ℕ) → before x y ≡ true → before y z ≡ true → before x z ≡ true
before-trans x y z p q = ap is_lt (lex-trans x y z (less (lex_compare x y) p) (less (lex_compare y z) q))
  where
    less : (o : Ordering) → is_lt o ≡ true → o ≡ Less
    less Less e = refl
    less Equal e = absurd (false≢true e)
    less Greater e = absurd (false≢true e)

-- the rules by which each key stands above the one before it
abbrev pub Rises : Rule → Type 0
Rises free = ⊥
Rises (distinct r) = ⊥
Rises (early r) = Unit
Rises (late r) = Unit

rise-end : (u : Rule) → Rises u → (ks : List (List ℕ)) → in_order u [] ks ≡ true
unfolding in_order
rise-end free h ks = absurd h
rise-end (distinct r) h ks = absurd h
rise-end (early r) h ks = refl
rise-end (late r) h ks = refl

rise-next : (u : Rule) → Rises u → (k : List ℕ) (more ks : List (List ℕ)) → in_order u (k ∷ more) ks ≡ (above k ks && in_order u more (k ∷ []))
unfolding in_order
rise-next free h k more ks = absurd h
rise-next (distinct r) h k more ks = absurd h
rise-next (early r) h k more ks = refl
rise-next (late r) h k more ks = refl

module _ (u : Rule) (h : Rises u) where
  next : (k l : List ℕ) (ls : List (List ℕ)) → in_order u (l ∷ ls) (k ∷ []) ≡ true → (before k l ≡ true) × (in_order u ls (l ∷ []) ≡ true)
  next k l ls e = both (before k l) (in_order u ls (l ∷ [])) (sym (rise-next u h l ls (k ∷ [])) ∙ e)

  below_all : (k : List ℕ) (ks : List (List ℕ)) → in_order u ks (k ∷ []) ≡ true → (j : ℕ) → j < length ks → before k (get_or ks j []) ≡ true
  below_all k [] e j i = absurd (omega arith)
  below_all k (l ∷ ls) e zero i = (next k l ls e).0
  below_all k (l ∷ ls) e (suc j) i = let n = next k l ls e in before-trans k l (get_or ls j []) n.0 (below_all l ls n.1 j (omega arith))

  ascends : (k : List ℕ) (ks : List (List ℕ)) → in_order u ks (k ∷ []) ≡ true → Ascending (k ∷ ks)
  ascends k ks e i zero p q = absurd (omega arith)
  ascends k ks e zero (suc j) p q = below_all k ks e j (omega arith)
  ascends k [] e (suc i) (suc j) p q = absurd (omega arith)
  ascends k (l ∷ ls) e (suc i) (suc j) p q = ascends l ls (next k l ls e).1 i j (omega arith) (omega arith)

  in_order-ascends : (k : List ℕ) (ks : List (List ℕ)) → Ascending (k ∷ ks) → in_order u ks (k ∷ []) ≡ true
  in_order-ascends k [] a = rise-end u h (k ∷ [])
  in_order-ascends k (l ∷ ls) a =
      rise-next u h l ls (k ∷ []) ∙ rw (a 0 1 (omega arith) (omega arith), in_order-ascends l ls (λ i j p q. a (suc i) (suc j) (omega arith) (omega arith)))

  -- keys pass the test of such a rule, early or late, exactly if they ascend
  pub ascending-iff : (ks : List (List ℕ)) → in_order u ks [] ≡ true ↔ Ascending ks
  ascending-iff [] = (λ e i j p q. absurd (omega arith), λ a. rise-end u h [])
  ascending-iff (k ∷ ks) = (λ e. ascends k ks (sym (rise-next u h k ks []) ∙ e), λ a. rise-next u h k ks [] ∙ in_order-ascends k ks a)

pub before-apart : (x y : List ℕ) → before x y ≡ true → x ≡ y → ⊥
before-apart x y h e = false≢true (sym (ap is_lt (lex-refl y)) ∙ subst (λ z. before z y ≡ true) e h)

-- keys that ascend differ
pub ascending-different : (ks : List (List ℕ)) → Ascending ks → Different ks
ascending-different ks a i j l k = before-apart (get_or ks i []) (get_or ks j []) (a i j l k)

-- ---- keys that are all different
apart : (k : List ℕ) (ks : List (List ℕ)) → is_in k ks ≡ false → (j : ℕ) → j < length ks → k ≡ get_or ks j [] → ⊥
unfolding is_in
apart k [] e j i q = absurd (omega arith)
apart k (l ∷ ls) e zero i q = true≢false (sym (subst (λ x. same k x ≡ true) q (same_refl k)) ∙ (neither (same k l) (is_in k ls) e).0)
apart k (l ∷ ls) e (suc j) i q = apart k ls (neither (same k l) (is_in k ls) e).1 j (omega arith) q

not_in : (k : List ℕ) (ks : List (List ℕ)) → ((j : ℕ) → j < length ks → k ≡ get_or ks j [] → ⊥) → is_in k ks ≡ false
unfolding is_in
not_in k [] d = refl
not_in k (l ∷ ls) d = rw (differs (same k l) refl) (not_in k ls (λ j i q. d (suc j) (omega arith) q))
  where
    differs : (b : Bool) → same k l ≡ b → same k l ≡ false
    differs true e = absurd (d 0 (omega arith) (same_true k l e))
    differs false e = e

pairs-differ : (ks : List (List ℕ)) → all_different ks ≡ true → Different ks
unfolding all_different
pairs-differ ks e i zero p q = absurd (omega arith)
pairs-differ [] e i (suc j) p q = absurd (omega arith)
pairs-differ (k ∷ ks) e zero (suc j) p q = apart k ks (not-true (is_in k ks) (both (not (is_in k ks)) (all_different ks) e).0) j (omega arith)
pairs-differ (k ∷ ks) e (suc i) (suc j) p q = pairs-differ ks (both (not (is_in k ks)) (all_different ks) e).1 i j (omega arith) (omega arith)

all-differ : (ks : List (List ℕ)) → Different ks → all_different ks ≡ true
unfolding all_different
all-differ [] d = refl
all-differ (k ∷ ks) d =
    rw (not_in k ks (λ j i. d 0 (suc j) (omega arith) (omega arith)), all-differ ks (λ i j p q. d (suc i) (suc j) (omega arith) (omega arith)))

-- keys pass the test of question 8 exactly if every two differ
pub different-iff : (ks : List (List ℕ)) → all_different ks ≡ true ↔ Different ks
different-iff ks = (pairs-differ ks, all-differ ks)

-- a list under that rule asks it of all its keys
distinct-all : (r : Rank) (ks ls : List (List ℕ)) → in_order (distinct r) ks ls ≡ all_different (ls ++ ks)
unfolding in_order
distinct-all r [] ls = ap all_different (sym (append-nil ls))
distinct-all r (k ∷ ks) ls = distinct-all r ks (ls ++ (k ∷ [])) ∙ ap all_different (append_snoc ls k ks)

-- the keys of a list pass the test of that rule exactly if every two differ
pub distinct-iff : (r : Rank) (ks : List (List ℕ)) → in_order (distinct r) ks [] ≡ true ↔ Different ks
distinct-iff r ks = rw (distinct-all r ks []) (different-iff ks)
