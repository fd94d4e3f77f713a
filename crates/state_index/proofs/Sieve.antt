-- The table of a sift, over any key and any slots that equal keys share: what is placed in it, what is left, and what that says of different
-- keys. The position `first` stands in each slot that is free, and in its own for good.
use mathlib.Core.Path.{◌≡◌, refl, sym, ap, ◌∙◌}
use mathlib.Core.List.Permᴰ
use mathlib.Core.List.{List, [], ◌∷◌, ◌++◌, map, append-nil}
use mathlib.Core.Bool.{Bool, true, false, not, ◌&&◌, ◌||◌, and-true, and-false, and_comm}
use Prim.Native.Nat.{ℕ, ◌+◌, ◌≤◌, ◌<◌}
use native.Mathlib.Numerals.{add-one}
use native.Mathlib.Omega.{arith}
use lib.ListN.{length, get_or, take, drop, set, replicate, get_or-replicate, drop_of_length-le}
use lib.Dec.{eqb}
use lib.Seq.{drop-cons, drop-set-lt, take-suc-set, append_snoc, get_or-set_same, get_or-set_other}
use borrow.Author.Tests.{eqb-true, eqb-false}
use Rattle.format.specs.Lists.{same, is_in, all_different}
use Rattle.format.proofs.Lists.{same_true}
use Rattle.state_index.proofs.Order.{apart, is_false}
use Rattle.state_index.proofs.Sorting.{perm-map, different-perm}

not-or : (a b : Bool) → (not a && not b) ≡ not (a || b)
not-or a b = grind arith

both : (a b c d : Bool) → ((not a && not b) && (c && not d)) ≡ ((not a && c) && not (b || d))
both a b c d = grind arith

turn : (a b c : Bool) → ((not a && b) && c) ≡ (b && (c && not a))
turn a b c = grind arith

taken-and : (a b : Bool) → (a && b) ≡ true → (a ≡ true) × (b ≡ true)
taken-and a b e = grind arith

not-false : (b : Bool) → not b ≡ true → b ≡ false
not-false b e = grind arith

module _ (key : ℕ → List ℕ) (slot : ℕ → ℕ) (first : ℕ) where
  -- what stands in the slot of q has its text
  abbrev pub hit : (ℕ → ℕ) → ℕ → Bool
  hit t q = same (key (t (slot q))) (key q)

  abbrev pub free : (ℕ → ℕ) → ℕ → Bool
  free t q = eqb (t (slot q)) first && not (eqb (slot q) (slot first))

  abbrev pub misses : (ℕ → ℕ) → List ℕ → Bool
  misses t [] = true
  misses t (q ∷ l) = not (hit t q) && misses t l

  -- another text has the slot of each of them for good
  abbrev pub Settled : (ℕ → ℕ) → List ℕ → Type 0
  Settled t [] = Unit
  Settled t (q ∷ l) = (hit t q ≡ false) × (free t q ≡ false) × Settled t l

  module _ (t : ℕ → ℕ) where
    misses-settled : (l : List ℕ) → Settled t l → misses t l ≡ true
    misses-settled [] h = refl
    misses-settled (q ∷ l) h = rw (h.0, misses-settled l h.2)

    settled-more : (l : List ℕ) (x : ℕ) → Settled t l → hit t x ≡ false → free t x ≡ false → Settled t (l ++ (x ∷ []))
    settled-more [] x h a b = (a, b, tt)
    settled-more (q ∷ l) x h a b = (h.0, h.1, settled-more l x h.2 a b)

    misses-other : (l : List ℕ) (x : ℕ) (r : List ℕ) → hit t x ≡ false → misses t (l ++ x ∷ r) ≡ misses t (l ++ r)
    misses-other [] x r h = rw h
    misses-other (q ∷ l) x r h = ap (λ (m : Bool). not (hit t q) && m) (misses-other l x r h)

    misses-none : (l : List ℕ) (x : ℕ) (r : List ℕ) → hit t x ≡ true → misses t (l ++ x ∷ r) ≡ false
    misses-none [] x r h = rw h
    misses-none (q ∷ l) x r h = ap (λ (m : Bool). not (hit t q) && m) (misses-none l x r h) ∙ and-false (not (hit t q))

    misses-first : ((q : ℕ) → t (slot q) ≡ first) → (l : List ℕ) → misses t l ≡ not (is_in (key first) (map key l))
    unfolding is_in
    misses-first f [] = refl
    misses-first f (q ∷ l) = rw (f q, misses-first f l) (not-or (same (key first) (key q)) (is_in (key first) (map key l)))

  different-middle : (l : List ℕ) (x : ℕ) (r : List ℕ) → all_different (map key (l ++ x ∷ r)) ≡ (not (is_in (key x) (map key (l ++ r))) && all_different (map key (l ++ r)))
  unfolding all_different
  different-middle l x r = different-perm (perm-map key (Permᴰ.middle x l r))

  -- the keys of those left and of those to come are different, and none of them is in the table
  abbrev pub good : (ℕ → ℕ) → List ℕ → Bool
  good t l = all_different (map key l) && misses t l

  module _ (shared : (p q : ℕ) → key p ≡ key q → slot p ≡ slot q) where
    others : (p q : ℕ) → (slot p ≡ slot q → ⊥) → same (key p) (key q) ≡ false
    others p q f = is_false (same (key p) (key q)) (λ e. f (shared p q (same_true (key p) (key q) e)))

    -- x is placed in a free slot
    module _ (t u : ℕ → ℕ) (x : ℕ) (f : free t x ≡ true) (here : u (slot x) ≡ x) (there : (g : ℕ) → (g ≡ slot x → ⊥) → u g ≡ t g) where
      was : t (slot x) ≡ first
      was = eqb-true (t (slot x)) first (taken-and (eqb (t (slot x)) first) (not (eqb (slot x) (slot first))) f).0

      away : slot first ≡ slot x → ⊥
      away e =
          let b : eqb (slot x) (slot first) ≡ false =
          not-false (eqb (slot x) (slot first)) (taken-and (eqb (t (slot x)) first) (not (eqb (slot x) (slot first))) f).1 in
          eqb-false (slot x) (slot first) b (sym e)

      hit-placed : (q : ℕ) → not (hit u q) ≡ (not (hit t q) && not (same (key x) (key q)))
      hit-placed q = go (eqb (slot q) (slot x)) refl
        where
          go : (b : Bool) → eqb (slot q) (slot x) ≡ b → not (hit u q) ≡ (not (hit t q) && not (same (key x) (key q)))
          go true h =
              let e : slot q ≡ slot x = eqb-true (slot q) (slot x) h in
              rw (e, here, was, others first q (λ d. away (d ∙ e)))
          go false h =
              let n : slot q ≡ slot x → ⊥ = eqb-false (slot q) (slot x) h in
              rw (there (slot q) n, others x q (λ d. n (sym d))) (sym (and-true (not (hit t q))))

      misses-placed : (l : List ℕ) → misses u l ≡ (misses t l && not (is_in (key x) (map key l)))
      unfolding is_in
      misses-placed [] = refl
      misses-placed (q ∷ l) = rw (hit-placed q, misses-placed l) (both (hit t q) (same (key x) (key q)) (misses t l) (is_in (key x) (map key l)))

      pub settled-placed : (l : List ℕ) → Settled t l → Settled u l
      settled-placed [] h = tt
      settled-placed (q ∷ l) h =
          let n : slot q ≡ slot x → ⊥ = λ e. apart (sym (ap (λ (g : ℕ). eqb (t g) first && not (eqb g (slot first))) e ∙ f) ∙ h.1) in
          let e : u (slot q) ≡ t (slot q) = there (slot q) n in
          (ap (λ (v : ℕ). same (key v) (key q)) e ∙ h.0, ap (λ (v : ℕ). eqb v first && not (eqb (slot q) (slot first))) e ∙ h.1, settled-placed l h.2)

      pub good_placed : (l r : List ℕ) → good t (l ++ x ∷ r) ≡ good u (l ++ r)
      good_placed l r =
          rw (different-middle l x r, misses-other t l x r (ap (λ (v : ℕ). same (key v) (key x)) was ∙ others first x away), misses-placed (l ++ r))
          (turn (is_in (key x) (map key (l ++ r))) (all_different (map key (l ++ r))) (misses t (l ++ r)))

-- ---- the positions w, of which k are left at the front and those from i on are to come, and the table t

module _ (key : ℕ → List ℕ) (slot : ℕ → ℕ) (first : ℕ) where
  abbrev table : List ℕ → ℕ → ℕ
  table t g = get_or t g 0

  -- what has been told of the positions o
  pub record Held (o w t : List ℕ) (k i : ℕ) : Type 0 where
    pub settled : Settled key slot first (table t) (take k w)
    pub same : all_different (map key o) ≡ good key slot first (table t) (take k w ++ drop i w)

  -- the table filled at the start
  pub held-filled : (w t : List ℕ) {m : ℕ} → t ≡ replicate m first → get_or w 0 0 ≡ first → 0 < length w → ((q : ℕ) → slot q < m) → Held w w t 0 1
  held-filled [] t e f h b = absurd (omega arith)
  held-filled (x ∷ w) t {m} e f h b =
      let at : (q : ℕ) → table t (slot q) ≡ first = λ q. rw e (get_or-replicate m (slot q) first 0 (b q)) in
      record {
        settled = tt;
        same =
            different-middle key slot first [] x w
            ∙ rw (f, misses-first key slot first (table t) at w) (and_comm (not (is_in (key first) (map key w))) (all_different (map key w)));
      }

module _ {key : ℕ → List ℕ} {slot : ℕ → ℕ} {first : ℕ} {o w t : List ℕ} {k i : ℕ} (held : Held key slot first o w t k i) where
  abbrev x : ℕ
  x = get_or w i 0

  next : i < length w → all_different (map key o) ≡ good key slot first (table key slot first t) (take k w ++ x ∷ drop (i + 1) w)
  next h = held.same ∙ ap (λ (r : List ℕ). good key slot first (table key slot first t) (take k w ++ r)) (drop-cons w i 0 h ∙ ap (λ (j : ℕ). x ∷ drop j w) (sym (add-one i)))

  -- x goes into its slot h, which is free
  pub held-placed : {h own : ℕ} {r : Bool} → h ≡ slot x → own ≡ slot first → r ≡ (eqb (get_or t h 0) first && not (eqb h own)) → r ≡ true
      → ((p q : ℕ) → key p ≡ key q → slot p ≡ slot q) → i < length w → h < length t → Held key slot first o w (set t h x) k (i + 1)
  held-placed {h} {own} e d s u shared hi l =
      let v : List ℕ = set t h x in
      let f : free key slot first (table key slot first t) x ≡ true = rw (← e, ← d) (sym s ∙ u) in
      let here : table key slot first v (slot x) ≡ x = rw (← e) (get_or-set_same t h x 0 l) in
      let there : (g : ℕ) → (g ≡ slot x → ⊥) → table key slot first v g ≡ table key slot first t g = λ g d. get_or-set_other t h g x 0 (λ z. d (z ∙ e)) in
      record {
        settled = settled-placed key slot first shared (table key slot first t) (table key slot first v) x f here there (take k w) held.settled;
        same = next hi ∙ good_placed key slot first shared (table key slot first t) (table key slot first v) x f here there (take k w) (drop (i + 1) w);
      }

  module _ (hi : i < length w) {h : ℕ} (e : h ≡ slot x) {b : Bool} (s : b ≡ same (key (get_or t h 0)) (key x)) where
    -- x stays: another text stands in its slot for good
    pub held-left : b ≡ false → {own : ℕ} {r : Bool} → own ≡ slot first → r ≡ (eqb (get_or t h 0) first && not (eqb h own)) → r ≡ false
        → k < i → Held key slot first o (set w k x) t (k + 1) (i + 1)
    held-left f {own} d u g hk =
        let a : hit key slot first (table key slot first t) x ≡ false = rw (← e) (sym s ∙ f) in
        let c : free key slot first (table key slot first t) x ≡ false = rw (← e, ← d) (sym u ∙ g) in
        let front : take (k + 1) (set w k x) ≡ take k w ++ (x ∷ []) = ap (λ (j : ℕ). take j (set w k x)) (add-one k) ∙ take-suc-set w k x (omega arith) in
        let rest : drop (i + 1) (set w k x) ≡ drop (i + 1) w = drop-set-lt (i + 1) w k x (omega arith) in
        record {
          settled = rw front (settled-more key slot first (table key slot first t) (take k w) x held.settled a c);
          same = next hi ∙ rw (front, rest) (ap (λ (r : List ℕ). good key slot first (table key slot first t) r) (sym (append_snoc (take k w) x (drop (i + 1) w))));
        }

    -- its own text does
    pub held-same : b ≡ true → all_different (map key o) ≡ false
    held-same f =
        let d : Bool = all_different (map key (take k w ++ x ∷ drop (i + 1) w)) in
        next hi
        ∙ ap (λ (m : Bool). d && m) (misses-none key slot first (table key slot first t) (take k w) x (drop (i + 1) w) (rw (← e) (sym s ∙ f)))
        ∙ and-false d

  pub held-end : length w ≤ i → all_different (map key o) ≡ all_different (map key (take k w))
  held-end h =
      held.same
      ∙ rw (drop_of_length-le w {i = i} h, append-nil (take k w), misses-settled key slot first (table key slot first t) (take k w) held.settled)
      (and-true (all_different (map key (take k w))))
