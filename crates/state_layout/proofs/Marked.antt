-- Marks of keys that are all different: one set, one read, all of them.
use Prim.Native.Nat.{ℕ, zero, suc, ◌<◌}
use native.Mathlib.Omega.{arith}
use mathlib.Core.Path.{◌≡◌, refl, ap, subst}
use mathlib.Core.Bool.{Bool, true, false, not, cond, or-true}
use mathlib.Core.List.{List, [], ◌∷◌, map}
use lib.ListN.{length, get_or, set, replicate}
use borrow.Author.Tests.{not-true}
use Rattle.std.proofs.lemmas.Bool.{and_parts as both, or_parts as neither}
use Rattle.format.specs.Lists.{same, is_in, all_different}
use Rattle.format.proofs.Lists.{same_refl, same-sym}
use Rattle.questions.specs.Sets.{all, all_in}
use Rattle.state_layout.specs.Marks.{is_set, marks_of}

-- ---- keys in a list
pub get-map : {A B : Type 0} (f : A → B) (l : List A) (i : ℕ) (a : A) (b : B) → i < length l → get_or (map f l) i b ≡ f (get_or l i a)
get-map f [] i a b h = absurd (omega arith)
get-map f (x ∷ l) zero a b h = refl
get-map f (x ∷ l) (suc i) a b h = get-map f l i a b (omega arith)

pub key_in : (keys : List (List ℕ)) (w : ℕ) → w < length keys → is_in (get_or keys w []) keys ≡ true
unfolding is_in
key_in [] w h = absurd (omega arith)
key_in (x ∷ keys) zero h = rw (same_refl x)
key_in (x ∷ keys) (suc w) h = rw (key_in keys w (omega arith)) (or-true (same (get_or keys w []) x))

-- a key that is not in a list differs from each of it
pub key_apart : (k : List ℕ) (keys : List (List ℕ)) (w : ℕ) → is_in k keys ≡ false → w < length keys → same k (get_or keys w []) ≡ false
unfolding is_in
key_apart k [] w e h = absurd (omega arith)
key_apart k (x ∷ keys) zero e h = (neither (same k x) (is_in k keys) e).0
key_apart k (x ∷ keys) (suc w) e h = key_apart k keys w (neither (same k x) (is_in k keys) e).1 (omega arith)

-- of keys that are all different the first is not among the rest, which are
pub first-apart : (k : List ℕ) (keys : List (List ℕ)) → all_different (k ∷ keys) ≡ true → (is_in k keys ≡ false) × (all_different keys ≡ true)
unfolding all_different
first-apart k keys e = let b = both (not (is_in k keys)) (all_different keys) e in (not-true (is_in k keys) b.0, b.1)

-- ---- marks as a list
pub marks-other : (seen keys : List (List ℕ)) (k : List ℕ) → is_in k keys ≡ false → marks_of seen keys ≡ marks_of (k ∷ seen) keys
unfolding marks_of is_in
marks-other seen [] k e = refl
marks-other seen (x ∷ keys) k e =
    let n = neither (same k x) (is_in k keys) e in
    rw (same-sym x k, n.0) (ap (λ (l : List ℕ). cond (is_in x seen) 1 0 ∷ l) (marks-other seen keys k n.1))

pub mark_set : (seen keys : List (List ℕ)) (k : List ℕ) (w : ℕ) → all_different keys ≡ true → w < length keys → get_or keys w [] ≡ k
    → set (marks_of seen keys) w 1 ≡ marks_of (k ∷ seen) keys
unfolding marks_of is_in
mark_set seen [] k w d h e = absurd (omega arith)
mark_set seen (x ∷ keys) k zero d h e =
    subst (λ (z : List ℕ). set (marks_of seen (x ∷ keys)) 0 1 ≡ marks_of (z ∷ seen) (x ∷ keys)) e
    (rw (same_refl x) (ap (λ (l : List ℕ). 1 ∷ l) (marks-other seen keys x (first-apart x keys d).0)))
mark_set seen (x ∷ keys) k (suc w) d h e =
    let a = first-apart x keys d in
    let n : same x k ≡ false = rw e at (key_apart x keys w a.0 (omega arith)) in
    rw n (ap (λ (l : List ℕ). cond (is_in x seen) 1 0 ∷ l) (mark_set seen keys k w a.1 (omega arith) e))

pub mark-read : (seen keys : List (List ℕ)) (w : ℕ) → w < length keys → get_or (marks_of seen keys) w 0 ≡ cond (is_in (get_or keys w []) seen) 1 0
unfolding marks_of
mark-read seen keys w h = get-map (λ k. cond (is_in k seen) 1 0) keys w [] 0 h

pub is-set : (b : Bool) → is_set (cond b 1 0) ≡ b
unfolding is_set
is-set true = refl
is-set false = refl

pub set-where : (n : ℕ) → (n ≡ 0 → ⊥) → is_set n ≡ true
unfolding is_set
set-where zero h = absurd (h refl)
set-where (suc n) h = refl

pub unset-where : (n : ℕ) → n ≡ 0 → is_set n ≡ false
unfolding is_set
unset-where n e = rw e

pub all_set : (seen keys : List (List ℕ)) → all is_set (marks_of seen keys) ≡ all_in keys seen
unfolding all all_in marks_of
all_set seen [] = refl
all_set seen (x ∷ keys) = rw (is-set (is_in x seen), all_set seen keys)

pub marks-none : (keys : List (List ℕ)) → marks_of [] keys ≡ replicate (length keys) 0
unfolding marks_of is_in
marks-none [] = refl
marks-none (x ∷ keys) = ap (λ (l : List ℕ). 0 ∷ l) (marks-none keys)
