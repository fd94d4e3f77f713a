-- Slots that join: each of their words is held by exactly one of them.
use Prim.Native.Nat.{ℕ, zero, suc, ◌+◌, ◌≤◌, ◌<◌}
use native.Mathlib.Omega.{arith}
use mathlib.Core.Path.{◌≡◌, refl, sym, ap, ◌∙◌}
use mathlib.Core.Bool.{Bool, true, false, ◌&&◌}
use mathlib.Core.List.{List, [], ◌∷◌, map, Permᴰ}
use lib.ListN.{length, get_or}
use lib.Dec.{ltb, leb, eqb}
use borrow.Author.Tests.{leb-true, ltb-true, ltb-false, eqb-true, le-leb, lt-ltb}
use Rattle.std.proofs.lemmas.Bool.{and_parts as both}
use Rattle.format.specs.Admits.{All}
use Rattle.questions.specs.Sets.{sum}
use Rattle.questions.specs.Slots.{join_from}
use Rattle.verdict.specs.Demand3.{HoldsWord, HeldOnce}

-- ---- how many slots hold a word
-- the word after a slot's last
abbrev pub end : ℕ × ℕ → ℕ
end w = w.0 + w.1

-- 1 for a slot that holds it, 0 for one that does not, and the sum of these
abbrev pub one : Bool → ℕ
one true = 1
one false = 0

abbrev pub has : ℕ → ℕ × ℕ → Bool
has x w = leb w.0 x && ltb x (end w)

abbrev pub holders : ℕ → List (ℕ × ℕ) → ℕ
holders x ws = sum (map (λ w. one (has x w)) ws)

-- how many words the slots hold
abbrev pub held : List (ℕ × ℕ) → ℕ
held ws = sum (map (λ w. w.1) ws)

-- the test says yes just of a slot that holds the word
has-holds : (x : ℕ) (w : ℕ × ℕ) → has x w ≡ true → HoldsWord w x
has-holds x w e = let b = both (leb w.0 x) (ltb x (end w)) e in (leb-true _ _ b.0, ltb-true _ _ b.1)

holds_has : (x : ℕ) (w : ℕ × ℕ) → HoldsWord w x → has x w ≡ true
holds_has x w h = rw (le-leb _ _ h.0, lt-ltb _ _ h.1)

-- one that does not hold it is not counted
lacks : (x : ℕ) (w : ℕ × ℕ) → (HoldsWord w x → ⊥) → one (has x w) ≡ 0
lacks x w h = go (has x w) refl
  where
    go : (b : Bool) → has x w ≡ b → one b ≡ 0
    go true e = absurd (h (has-holds x w e))
    go false e = refl

-- a sum does not ask for the order
pub sum-perm : {A : Type 0} (g : A → ℕ) {l r : List A} → Permᴰ l r → sum (map g l) ≡ sum (map g r)
unfolding sum
sum-perm g Permᴰ.nil = refl
sum-perm g (Permᴰ.cons e p) = omega (arith, ap g e, sum-perm g p)
sum-perm g (Permᴰ.swap e f) = omega (arith, ap g e, ap g f)
sum-perm g (Permᴰ.trans p q) = sum-perm g p ∙ sum-perm g q

-- ---- slots that join
-- the first starts there, and the others join from its end on
joins-next : (n : ℕ) (w : ℕ × ℕ) (ws : List (ℕ × ℕ)) → join_from n (w ∷ ws) ≡ true → (w.0 ≡ n) × (join_from (end w) ws ≡ true)
unfolding join_from
joins-next n w ws j = let b = both (eqb w.0 n) (join_from (end w) ws) j in (eqb-true _ _ b.0, b.1)

-- none holds a word before the first
none_below : (n : ℕ) (ws : List (ℕ × ℕ)) → join_from n ws ≡ true → (x : ℕ) → x < n → holders x ws ≡ 0
unfolding sum
none_below n [] j x h = refl
none_below n (w ∷ ws) j x h =
    let b = joins-next n w ws j in
    omega (arith, lacks x w (λ p. omega (arith, p.0, b.0)), none_below (end w) ws b.1 x (omega (arith, b.0)))

-- just one holds each word from there on, as many as all hold
pub exactly-one : (n : ℕ) (ws : List (ℕ × ℕ)) → join_from n ws ≡ true → (x : ℕ) → n ≤ x → x < n + held ws → holders x ws ≡ 1
unfolding sum
exactly-one n [] j x h k = absurd (omega arith)
exactly-one n (w ∷ ws) j x h k = go (ltb x (end w)) refl (λ l. exactly-one (end w) ws b.1 x l (omega (arith, b.0)))
  where
    b : (w.0 ≡ n) × (join_from (end w) ws ≡ true)
    b = joins-next n w ws j

    go : (c : Bool) → ltb x (end w) ≡ c → (end w ≤ x → holders x ws ≡ 1) → one (has x w) + holders x ws ≡ 1
    go true q i =
        let l : x < end w = ltb-true _ _ q in
        omega (arith, ap one (holds_has x w (omega (arith, b.0), l)), none_below (end w) ws b.1 x l)
    go false q i =
        let l : end w ≤ x = ltb-false _ _ q in
        omega (arith, lacks x w (λ p. omega (arith, p.1)), i l)

-- each ends by then
pub ends_by : (m n : ℕ) (ws : List (ℕ × ℕ)) → join_from n ws ≡ true → n + held ws ≤ m → All (λ w. end w ≤ m) ws
unfolding sum
ends_by m n [] j h = tt
ends_by m n (w ∷ ws) j h =
    let b = joins-next n w ws j in
    (omega (arith, b.0), ends_by m (end w) ws b.1 (omega (arith, b.0)))

-- ---- the slot, by its place
-- where none is counted none holds it
no-holder : (x : ℕ) (ws : List (ℕ × ℕ)) → holders x ws ≡ 0 → (j : ℕ) → j < length ws → HoldsWord (get_or ws j (0, 0)) x → ⊥
unfolding sum
no-holder x [] e j h p = omega arith
no-holder x (w ∷ ws) e zero h p = let q : one (has x w) ≡ 1 = ap one (holds_has x w p) in omega arith
no-holder x (w ∷ ws) e (suc j) h p = no-holder x ws (omega arith) j (omega arith) p

-- where one is counted that one holds it
pub held-once : (x : ℕ) (ws : List (ℕ × ℕ)) → holders x ws ≡ 1 → HeldOnce ws x
unfolding sum
held-once x [] e = absurd (omega arith)
held-once x (w ∷ ws) e = go (has x w) refl (held-once x ws)
  where
    go : (b : Bool) → has x w ≡ b → (holders x ws ≡ 1 → HeldOnce ws x) → HeldOnce (w ∷ ws) x
    go true q i = record { place = 0; there = omega arith; holds = has-holds x w q; only = alone (omega (arith, ap one q)) }
      where
        alone : holders x ws ≡ 0 → (j : ℕ) → j < length (w ∷ ws) → HoldsWord (get_or (w ∷ ws) j (0, 0)) x → j ≡ 0
        alone z zero h p = refl
        alone z (suc j) h p = absurd (no-holder x ws z j (omega arith) p)
    go false q i =
        let h : HeldOnce ws x = i (omega (arith, ap one q)) in
        record { place = suc h.place; there = omega (arith, h.there); holds = h.holds; only = later h }
      where
        later : (h : HeldOnce ws x) (j : ℕ) → j < length (w ∷ ws) → HoldsWord (get_or (w ∷ ws) j (0, 0)) x → j ≡ suc h.place
        later h zero l p = absurd (let z : one true ≡ one false = ap one (sym (holds_has x w p) ∙ q) in omega arith)
        later h (suc j) l p = ap suc (h.only j (omega arith) p)
