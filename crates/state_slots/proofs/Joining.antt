-- Words in order that hold the same join alike, where each slot has some: no two of words that join tie.
use Prim.Native.Nat.{ℕ, ◌+◌, ◌≤◌, ◌<◌}
use native.Mathlib.Omega.{arith}
use mathlib.Core.Path.{◌≡◌, refl, sym, ap, ◌∙◌, subst}
use mathlib.Core.Bool.{Bool, true, false}
use mathlib.Core.List.Permᴰ
use mathlib.Core.List.{List, [], ◌∷◌, Permᴰ}
use lib.Dec.{leb, eqb}
use borrow.Author.Tests.{eqb-true, leb-true, le-leb, leb-false, lt-leb}
use Rattle.std.proofs.lemmas.Bool.{and_parts as both}
use Rattle.format.specs.Admits.{All}
use Rattle.questions.specs.Slots.{insert, by_offset, join_from}
use Rattle.questions.proofs.Sets.{both_ways}
use Rattle.questions.proofs.Kept.{all-perm}
use Rattle.questions.proofs.Sorted.{sort-perm}

-- the first of a slot's words, and how many there are
abbrev Words : Type 0
Words = ℕ × ℕ

abbrev not_after : Words → Words → Bool
not_after w x = leb w.0 x.0

abbrev pub Some : Words → Type 0
Some w = 0 < w.1

-- each stands so to all that follow it
module _ (R : Words → Words → Type 0) where
  abbrev pub Pairs : List Words → Type 0
  Pairs [] = Unit
  Pairs (w ∷ ws) = All (R w) ws × Pairs ws

abbrev pub InOrder : List Words → Type 0
InOrder = Pairs (λ w x. not_after w x ≡ true)

-- ---- what holds of each two holds after a permutation
pairs-perm : (R : Words → Words → Type 0) → ((a b : Words) → R a b → R b a) → {l r : List Words} → Permᴰ l r → Pairs R l → Pairs R r
pairs-perm R s Permᴰ.nil h = h
pairs-perm R s (Permᴰ.cons {l₂ = r} e p) h = (subst (λ x. All (R x) r) e (all-perm (R _) p h.0), pairs-perm R s p h.1)
pairs-perm R s (Permᴰ.swap {a = a} {b = b} {a' = a'} {b' = b'} {l = l} e f) h =
    subst (λ x. Pairs R (x ∷ (b' ∷ l))) f (subst (λ x. Pairs R (b ∷ (x ∷ l))) e ((s a b h.0.0, h.1.0), (h.0.1, h.1.1)))
pairs-perm R s (Permᴰ.trans p q) h = pairs-perm R s q (pairs-perm R s p h)

-- ---- a sort leaves words in order as they are
insert-first : (w : Words) (ws : List Words) → All (λ x. not_after w x ≡ true) ws → insert w ws ≡ w ∷ ws
unfolding insert
insert-first w [] h = refl
insert-first w (x ∷ ws) h = rw h.0

sort-same : (ws : List Words) → InOrder ws → by_offset ws ≡ ws
unfolding by_offset
sort-same [] h = refl
sort-same (w ∷ ws) h = ap (insert w) (sort-same ws h.1) ∙ insert-first w ws h.0

-- ---- of words of which no two start alike, any permutation sorts to the same list
abbrev Apart : Words → Words → Type 0
Apart a b = a.0 ≡ b.0 → ⊥

insert-two : (a b : Words) → a.0 < b.0 → (ws : List Words) → insert a (insert b ws) ≡ insert b (insert a ws)
unfolding insert
insert-two a b p [] = rw (le-leb a.0 b.0 (omega arith), lt-leb b.0 a.0 p)
insert-two a b p (x ∷ ws) = go (not_after b x) refl (not_after a x) refl (insert-two a b p ws)
  where
    go : (u : Bool) → not_after b x ≡ u → (v : Bool) → not_after a x ≡ v → insert a (insert b ws) ≡ insert b (insert a ws) → insert a (insert b (x ∷ ws)) ≡ insert b (insert a (x ∷ ws))
    go true h v k ih =
        let c : not_after a x ≡ true = le-leb a.0 x.0 (omega (arith, leb-true b.0 x.0 h)) in
        rw (h, c, le-leb a.0 b.0 (omega arith), lt-leb b.0 a.0 p, h)
    go false h true k ih = rw (h, k, lt-leb b.0 a.0 p, h)
    go false h false k ih = rw (h, k, h) (ap (◌∷◌ x) ih)

insert_comm : (a b : Words) → Apart a b → (ws : List Words) → insert a (insert b ws) ≡ insert b (insert a ws)
insert_comm a b d ws = go (leb b.0 a.0) refl
  where
    go : (u : Bool) → leb b.0 a.0 ≡ u → insert a (insert b ws) ≡ insert b (insert a ws)
    go true h = sym (insert-two b a (omega (arith, leb-true b.0 a.0 h, d)) ws)
    go false h = insert-two a b (leb-false b.0 a.0 h) ws

sort-of-perm : {l r : List Words} → Permᴰ l r → Pairs Apart l → by_offset l ≡ by_offset r
unfolding by_offset
sort-of-perm Permᴰ.nil h = refl
sort-of-perm (Permᴰ.cons {a = a} {l₂ = r} e p) h = ap (insert a) (sort-of-perm p h.1) ∙ ap (λ x. insert x (by_offset r)) e
sort-of-perm (Permᴰ.swap {a = a} {b = b} {a' = a'} {l = l} e f) h =
    insert_comm a b h.0.0 (by_offset l)
    ∙ ap (λ x. insert x (insert a (by_offset l))) f
    ∙ ap (λ x. insert a' (insert x (by_offset l))) e
sort-of-perm (Permᴰ.trans p q) h = sort-of-perm p h ∙ sort-of-perm q (pairs-perm Apart (λ a b t e. t (sym e)) p h)

-- ---- words that join from n on start at n or later, each at a place of its own
joined-from : (m n : ℕ) → m ≤ n → (ws : List Words) → join_from n ws ≡ true → All (λ w. m ≤ w.0) ws
unfolding join_from
joined-from m n i [] h = tt
joined-from m n i (w ∷ ws) h =
    let p = both (eqb w.0 n) (join_from (w.0 + w.1) ws) h in
    let e : w.0 ≡ n = eqb-true w.0 n p.0 in
    (omega arith, joined-from m (w.0 + w.1) (omega arith) ws p.1)

joined-apart : (n : ℕ) (ws : List Words) → All Some ws → join_from n ws ≡ true → Pairs Apart ws
unfolding join_from
joined-apart n [] p h = tt
joined-apart n (w ∷ ws) p h =
    let k = (both (eqb w.0 n) (join_from (w.0 + w.1) ws) h).1 in
    (above ws (joined-from (w.0 + w.1) (w.0 + w.1) (omega arith) ws k), joined-apart (w.0 + w.1) ws p.1 k)
  where
    above : (xs : List Words) → All (λ x. w.0 + w.1 ≤ x.0) xs → All (Apart w) xs
    above [] a = tt
    above (x ∷ xs) a = ((λ e. omega (arith, e, p.0, a.0)), above xs a.1)

-- words in order, that are those of l, join just where the sorted l does
pub joins-in-order : (n : ℕ) {l r : List Words} → Permᴰ l r → InOrder r → All Some l → join_from n r ≡ join_from n (by_offset l)
joins-in-order n {l = l} {r = r} p o k =
    both_ways _ _
    (λ h. rw (← same (back (Permᴰ.symm p) (joined-apart n r (all-perm Some p k) h))) h)
    (λ h. rw (same (back (Permᴰ.symm (sort-perm l)) (joined-apart n (by_offset l) (all-perm Some (sort-perm l) k) h))) h)
  where
    same : Pairs Apart l → r ≡ by_offset l
    same a = sym (sort-of-perm p a ∙ sort-same r o)

    back : {a b : List Words} → Permᴰ a b → Pairs Apart a → Pairs Apart b
    back q h = pairs-perm Apart (λ x y t e. t (sym e)) q h
