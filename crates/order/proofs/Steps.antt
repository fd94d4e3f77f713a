-- What the code cites: the answer of `same` where all that is left agrees, and that of `compare` at the first difference.
-- Assumes nothing.
use Prim.Native.Nat.{ℕ, zero, suc, ◌+◌, ◌-◌, min, ◌≤◌, ◌<◌}
use mathlib.Core.List.{List, ◌++◌}
use mathlib.Core.Path.{◌≡◌, refl, sym, ap, ◌∙◌}
use native.Mathlib.Nat.{add-zero}
use native.Mathlib.Omega.{arith}
use lib.ListN.{length, take, drop, get_or, take-append-drop, drop_of_length-le}
use mathlib.Core.Bool.{false≢true}
use Rattle.std.proofs.lemmas.List.{take_more_same}
use Rattle.std.proofs.lemmas.List.FromFn.{get_or-range_with_len, length-range_with_len}
use lib.Seq.{drop-cons, length-take-le, take-length}
use Rattle.std.specs.declared.cmp.Ordering.{Ordering}
use Rattle.std.specs.declared.cmp.Ordering.TheVariants.{Less, Equal, Greater}
use Rattle.std.specs.Prelude.{Bool, true, false, MatchBool, HoldsAt}
use Rattle.std.specs.List.{AllWithin, range_with_len}
use Rattle.std.specs.Ordering.{nat_cmp, MatchOrdering}
use Rattle.std.proofs.lemmas.Cmp.{ranked}
use Rattle.order.specs.Lex.{compared}
use Rattle.order.proofs.Graph.{Compares, ended, shorter, longer, less, greater, only, behind}
use Rattle.order.proofs.Laws.{FirstDifference, both_end, left-ends, right-ends, below, above}

module _ {a b : List ℕ} {n : ℕ} where
  rest : {o : Ordering} → FirstDifference a b n o → Compares (drop n a) (drop n b) o 0
  rest (both_end p q) = rw (drop_of_length-le a {i = n} (omega arith), drop_of_length-le b {i = n} (omega arith)) ended
  rest (left-ends p q) = rw (drop_of_length-le a {i = n} (omega arith), drop-cons b n 0) shorter
  rest (right-ends p q) = rw (drop_of_length-le b {i = n} (omega arith), drop-cons a n 0) longer
  rest (below p q h) = rw (drop-cons a n 0, drop-cons b n 0) (less h)
  rest (above p q h) = rw (drop-cons a n 0, drop-cons b n 0) (greater h)

  -- the converse of `agree_Decides`: behind fronts that are the same, what stands at n is the answer
  pub found : {o : Ordering} → (n ≤ length a) × (n ≤ length b) × (take n a ≡ take n b) → FirstDifference a b n o → record { order = o; agree = n } ≡ compared a b
  found f d =
      let g : take n a ++ drop n b ≡ b = rw f.2 (take-append-drop n b) in
      let c = rw (g, take-append-drop n a, length-take-le n a f.0, add-zero) at (behind (take n a) (rest d)) in
      rw ((only c).0, (only c).1)

-- fronts that are the same, and the d bytes behind them too
front-on : (a b : List ℕ) (d n : ℕ) → n + d ≤ length a → n + d ≤ length b → take n a ≡ take n b → ((j : ℕ) → n ≤ j → j < n + d → get_or a j 0 ≡ get_or b j 0) → take (n + d) a ≡ take (n + d) b
front-on a b zero n h k e f = rw add-zero e
front-on a b (suc d) n h k e f =
    let m : n + suc d ≡ n + 1 + d = omega arith in
    rw m (front-on a b d (n + 1) (omega arith) (omega arith) (take_more_same a b n 0 (omega arith) (omega arith) e (f n (omega arith) (omega arith))) (λ j i l. f j (omega arith) (omega arith)))

-- .. up to a place
module _ (a b : List ℕ) (n m : ℕ) (i : n ≤ m) (h : m ≤ length a) (k : m ≤ length b) (e : take n a ≡ take n b) where
  front-to : ((j : ℕ) → n ≤ j → j < m → get_or a j 0 ≡ get_or b j 0) → take m a ≡ take m b
  front-to f =
      let r : n + (m - n) ≡ m = omega arith in
      rw r at (front-on a b (m - n) n (omega arith) (omega arith) e (λ j p l. f j p (omega arith)))

-- .. to the ends of both, where all numbers between pass the test that `same` makes
module _ (a b : List ℕ) (n : ℕ) (i : n ≤ length a) (k : length b ≡ length a) (e : take n a ≡ take n b) where
  abbrev between : List ℕ
  between = range_with_len n (length a - n)

  abbrev Agree : ℕ → Type 0
  Agree j = get_or a j 0 ≡ get_or b j 0

  agreed : AllWithin Agree between 0 (length between) → a ≡ b
  agreed f = sym (take-length a) ∙ front-to a b n (length a) i (omega arith) (omega (arith, k)) e at-each ∙ (rw k at (take-length b))
    where
      at-each : (j : ℕ) → n ≤ j → j < length a → Agree j
      at-each j h l =
          let p : n + (j - n) ≡ j = omega arith in
          rw (get_or-range_with_len n (length a - n) (j - n) 0 (omega arith), p) at (f (j - n) 0 (omega arith) (omega (arith, length-range_with_len n (length a - n))))

  pub same-behind : (r : Bool) → MatchBool r (AllWithin Agree between 0 (length between)) ((j : ℕ) × (j < length between) × HoldsAt (λ x. Agree x → ⊥) between j) → (r ≡ true → a ≡ b) × (a ≡ b → r ≡ true)
  same-behind true f = ((λ _. agreed f), λ _. refl)
  same-behind false f = ((λ q. absurd (false≢true q)), λ q. absurd (f.2 0 (ap (λ x. get_or x (get_or between f.0 0) 0) q)))

module _ (a b : List ℕ) (n : ℕ) where
  -- .. the order of two bytes that differ, or of the lengths where one list ends
  pub found-apart : (n ≤ length a) × (n ≤ length b) × (take n a ≡ take n b) → n < length a → n < length b → (get_or a n 0 ≡ get_or b n 0 → ⊥)
      → {o : Ordering} → o ≡ nat_cmp (get_or a n 0) (get_or b n 0) → record { order = o; agree = n } ≡ compared a b
  found-apart f h k ne {o = o} e = go o (ranked (get_or a n 0) (get_or b n 0) o e)
    where
      go : (o : Ordering) → MatchOrdering o (get_or a n 0 < get_or b n 0) (get_or a n 0 ≡ get_or b n 0) (get_or b n 0 < get_or a n 0) → record { order = o; agree = n } ≡ compared a b
      go Less m = found f (below h k m)
      go Equal m = absurd (ne m)
      go Greater m = found f (above h k m)

  pub found-end : (n ≤ length a) × (n ≤ length b) × (take n a ≡ take n b) → n ≡ min (length a) (length b) → {o : Ordering} → o ≡ nat_cmp (length a) (length b) → {m : ℕ} → m ≡ n → record { order = o; agree = m } ≡ compared a b
  found-end f e {o = o} i {m = m} h = rw h (go o (ranked (length a) (length b) o i))
    where
      go : (o : Ordering) → MatchOrdering o (length a < length b) (length a ≡ length b) (length b < length a) → record { order = o; agree = n } ≡ compared a b
      go Less m = found f (left-ends (omega arith) (omega arith))
      go Equal m = found f (both_end (omega arith) (omega arith))
      go Greater m = found f (right-ends (omega arith) (omega arith))
