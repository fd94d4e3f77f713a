-- Keys that ascend are the same set only if they are the same list.
use Prim.Native.Nat.{ℕ, suc, ◌<◌}
use native.Mathlib.Omega.{arith}
use mathlib.Core.Path.{◌≡◌, refl, sym, ◌∙◌, subst}
use mathlib.Core.Bool.{Bool, true, false, cond, true≢false}
use mathlib.Core.List.{List, [], ◌∷◌, map}
use lib.ListN.{length, get_or}
use Rattle.std.proofs.lemmas.Bool.{and_parts as both}
use Rattle.format.specs.Lists.{before, same, is_in}
use Rattle.format.specs.Admits.{All}
use Rattle.format.specs.Pairwise.{Ascending}
use Rattle.format.proofs.Lists.{same_true, same-apart, same_differs}
use Rattle.format.proofs.Pairwise.{before-trans, before-apart}
use Rattle.questions.specs.Sets.{all, keep, all_in, same_set}
use Rattle.questions.proofs.Sets.{all_weaker, in-cases, in-front, in_rest}
use Rattle.questions.proofs.Kept.{all_so, all-each, all_of_map, all-to-map, keep_all}

-- ---- each key comes before all that follow it
abbrev pub Ahead : List ℕ → List (List ℕ) → Type 0
Ahead k ks = All (λ l. before k l ≡ true) ks

abbrev pub Ascends : List (List ℕ) → Type 0
Ascends [] = Unit
Ascends (k ∷ ks) = Ahead k ks × Ascends ks

-- so do keys that ascend place by place
pub ascends : (ks : List (List ℕ)) → Ascending ks → Ascends ks
ascends [] a = tt
ascends (k ∷ ks) a = (each ks (λ j h. a 0 (suc j) (omega arith) (omega arith)), ascends ks (λ i j p q. a (suc i) (suc j) (omega arith) (omega arith)))
  where
    each : (ls : List (List ℕ)) → ((j : ℕ) → j < length ls → before k (get_or ls j []) ≡ true) → Ahead k ls
    each [] h = tt
    each (l ∷ ls) h = (h 0 (omega arith), each ls (λ j i. h (suc j) (omega arith)))

-- ---- membership
-- what is in a list has what each of it has
pub in_all : (P : List ℕ → Type 0) (k : List ℕ) (ks : List (List ℕ)) → is_in k ks ≡ true → All P ks → P k
unfolding is_in
in_all P k [] e a = absurd (true≢false (sym e))
in_all P k (l ∷ ls) e a = in-cases k l ls (λ i. subst P (sym i) a.0) (λ i. in_all P k ls i a.1) e

-- a key that is not the first is in the rest
in-cons : (k l : List ℕ) (ls : List (List ℕ)) → (k ≡ l → ⊥) → is_in k (l ∷ ls) ≡ is_in k ls
unfolding is_in
in-cons k l ls h = rw (same-apart k l h)

-- what is in a list is in a longer one
all-in-later : (ks : List (List ℕ)) (l : List ℕ) (ls : List (List ℕ)) → all_in ks ls ≡ true → all_in ks (l ∷ ls) ≡ true
unfolding all_in all
all-in-later [] l ls h = refl
all-in-later (k ∷ ks) l ls h = let p = both (is_in k ls) (all_in ks ls) h in rw (in_rest k l ls p.0, all-in-later ks l ls p.1)

-- each list is in itself
pub all-in-self : (ks : List (List ℕ)) → all_in ks ks ≡ true
unfolding all_in all
all-in-self [] = refl
all-in-self (k ∷ ks) = rw (in-front k ks, all-in-later ks k ks (all-in-self ks))

-- a key that comes before all of these is none of them
pub all-in-rest : (k : List ℕ) (ks ls : List (List ℕ)) → Ahead k ks → all_in ks (k ∷ ls) ≡ true → all_in ks ls ≡ true
unfolding all_in all
all-in-rest k [] ls a h = refl
all-in-rest k (x ∷ ks) ls a h =
    let p = both (is_in x (k ∷ ls)) (all_in ks (k ∷ ls)) h in
    rw (← in-cons x k ls (λ e. before-apart k x a.0 (sym e)), p.0, all-in-rest k ks ls a.1 p.1)

-- ---- lists that ascend and hold the same
-- the first is the same
heads : (x y : List ℕ) (xs ys : List (List ℕ)) → Ahead x xs → Ahead y ys → is_in x (y ∷ ys) ≡ true → is_in y (x ∷ xs) ≡ true → x ≡ y
heads x y xs ys p q i j = go (same x y) refl
  where
    go : (b : Bool) → same x y ≡ b → x ≡ y
    go true h = same_true x y h
    go false h =
        let d : x ≡ y → ⊥ = same_differs x y h in
        let a : before y x ≡ true = in_all (λ l. before y l ≡ true) x ys (sym (in-cons x y ys d) ∙ i) q in
        let b : before x y ≡ true = in_all (λ l. before x l ≡ true) y xs (sym (in-cons y x xs (λ e. d (sym e))) ∙ j) p in
        absurd (before-apart x x (before-trans x y x b a) refl)

-- and so are all
pub same_if : (xs ys : List (List ℕ)) → Ascends xs → Ascends ys → all_in xs ys ≡ true → all_in ys xs ≡ true → xs ≡ ys
unfolding all_in all is_in
same_if [] [] p q i j = refl
same_if [] (y ∷ ys) p q i j = absurd (true≢false (sym j))
same_if (x ∷ xs) [] p q i j = absurd (true≢false (sym i))
same_if (x ∷ xs) (y ∷ ys) p q i j =
    let a = both (is_in x (y ∷ ys)) (all_in xs (y ∷ ys)) i in
    let b = both (is_in y (x ∷ xs)) (all_in ys (x ∷ xs)) j in
    let e : x ≡ y = heads x y xs ys p.0 q.0 a.0 b.0 in
    let r : xs ≡ ys = same_if xs ys p.1 q.1 (all-in-rest y xs ys (subst (λ z. Ahead z xs) e p.0) a.1) (all-in-rest x ys xs (subst (λ z. Ahead z ys) (sym e) q.0) b.1) in
    rw (e, r)

-- what is among those that are among others is among these
pub all-in-others : (xs ys zs : List (List ℕ)) → all_in xs ys ≡ true → all_in ys zs ≡ true → all_in xs zs ≡ true
unfolding all_in
all-in-others xs ys zs p q = all_weaker _ _ (λ k i. in_all (λ l. is_in l zs ≡ true) k ys i (all-each _ ys q)) xs p

-- and so of two lists that ascend and hold what a third does
pub same-sets : (xs ys zs : List (List ℕ)) → Ascends xs → Ascends ys → same_set zs xs ≡ true → same_set zs ys ≡ true → xs ≡ ys
unfolding same_set
same-sets xs ys zs p q h i =
    let a = both (all_in zs xs) (all_in xs zs) h in
    let b = both (all_in zs ys) (all_in ys zs) i in
    same_if xs ys p q (all-in-others xs zs ys a.1 b.0) (all-in-others ys zs xs b.1 a.0)

-- ---- some of a list
module _ {A : Type 0} (name : A → List ℕ) (t : A → Bool) where
  -- a key before all is before those kept
  keep-ahead : (k : List ℕ) (xs : List A) → Ahead k (map name xs) → Ahead k (map name (keep t xs))
  keep-ahead k xs h =
      all-to-map name (λ l. before k l ≡ true) (keep t xs)
      (all_so (λ x p. p.0) (keep t xs) (keep_all t (λ x. before k (name x) ≡ true) xs (all_of_map name (λ l. before k l ≡ true) xs h)))

  -- those kept of keys that ascend do so
  pub keep-ascends : (xs : List A) → Ascends (map name xs) → Ascends (map name (keep t xs))
  unfolding keep
  keep-ascends [] h = tt
  keep-ascends (x ∷ xs) h = go (t x) (keep-ascends xs h.1)
    where
      go : (b : Bool) → Ascends (map name (keep t xs)) → Ascends (map name (cond b (x ∷ keep t xs) (keep t xs)))
      go true ih = (keep-ahead (name x) xs h.0, ih)
      go false ih = ih
