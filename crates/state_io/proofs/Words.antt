-- What neighbours say, pair by pair.
use Prim.Native.Nat.{ℕ, ◌+◌, ◌-◌, ◌≤◌, ◌<◌, min}
use native.Mathlib.Omega.{arith}
use mathlib.Core.Path.{◌≡◌, refl, ap}
use mathlib.Core.Bool.{Bool, true, false, cond}
use mathlib.Core.List.{List, [], ◌∷◌}
use lib.ListN.{length, get_or, take, drop}
use mir.Val.{bool_byte}
use borrow.Author.Tests.{not-true, not-false}
use Rattle.std.specs.Prelude.{Some, None}
use Rattle.format.specs.Lists.{same}
use Rattle.state_index.specs.Keys.{text_at}
use Rattle.state_io.proofs.Bools.{some_then, none_then}
use Rattle.state_io.specs.Paths.{agree, agree_next, neighbours_agree, differ_next, count_runs, another, count_agreeing}

module _ (s : List ℕ) where
  some-runs : (p : ℕ) (ps : List ℕ) → 1 ≤ count_runs s (p ∷ ps)
  unfolding count_runs differ_next
  some-runs p [] = omega arith
  some-runs p (q ∷ ps) = omega (arith, some-runs q ps)

  -- what is counted of paths before those that are left, of which the first is counted
  pub record Counted (paths rest : List ℕ) (count : ℕ) : Type 0 where
    pub few : count + length rest ≤ length paths + 1
    pub is : cond (neighbours_agree s rest) (Some (count + (count_runs s rest - 1))) None ≡ count_agreeing s paths

  pub counted-first : (paths : List ℕ) → Counted paths paths (min (length paths) 1)
  unfolding neighbours_agree count_runs
  counted-first [] = record { few = omega arith; is = refl }
  counted-first (p ∷ ps) =
      let i : min (length (p ∷ ps)) 1 + (count_runs s (p ∷ ps) - 1) ≡ count_runs s (p ∷ ps) = omega (arith, some-runs p ps) in
      record { few = omega arith; is = ap (λ (k : ℕ). cond (neighbours_agree s (p ∷ ps)) (Some k) None) i }

  module _ {paths : List ℕ} {count : ℕ} where
    pub counted-all : (rest : List ℕ) {n : ℕ} → n ≡ 2 → length rest < n → Counted paths rest count → Some count ≡ count_agreeing s paths
    unfolding neighbours_agree count_runs agree_next differ_next
    counted-all [] z h c = let e : count + 0 ≡ count = omega arith in rw e at c.is
    counted-all (p ∷ []) z h c = let e : count + 0 ≡ count = omega arith in rw e at c.is
    counted-all (p ∷ (q ∷ ps)) z h c = absurd (omega arith)

    -- the first two of those
    module _ (p q : ℕ) (ps : List ℕ) (c : Counted paths (p ∷ (q ∷ ps)) count) where
      more : (b : Bool) → another s p q ≡ Some b → Counted paths (q ∷ ps) (count + bool_byte b)
      unfolding neighbours_agree count_runs agree_next differ_next
      more true e =
          let t = some_then (agree s p q) e in
          let n : same (text_at s p) (text_at s q) ≡ false = not-true _ t.1 in
          let a : count + (1 + count_runs s (q ∷ ps) - 1) ≡ count + 1 + (count_runs s (q ∷ ps) - 1) = omega (arith, some-runs q ps) in
          record { few = omega (arith, c.few); is = rw (t.0, n, a) at c.is }
      more false e =
          let t = some_then (agree s p q) e in
          let n : same (text_at s p) (text_at s q) ≡ true = not-false _ t.1 in
          let a : count + (0 + count_runs s (q ∷ ps) - 1) ≡ count + 0 + (count_runs s (q ∷ ps) - 1) = omega arith in
          record { few = omega (arith, c.few); is = rw (t.0, n, a) at c.is }

      stop : another s p q ≡ None → None ≡ count_agreeing s paths
      unfolding neighbours_agree agree_next
      stop e = rw (none_then (agree s p q) _ e) at c.is

    -- the next pair
    module _ {n : ℕ} (z : n ≡ 2) {p q : ℕ} {pair : List ℕ} (ep : p ≡ get_or pair 0 0) (eq : q ≡ get_or pair 1 0) where
      pub counted-more : (rest : List ℕ) {next : List ℕ} → n ≤ length rest → pair ≡ take n rest → next ≡ drop 1 rest → Counted paths rest count
          → {b : Bool} → another s p q ≡ Some b → {x : ℕ} → x ≡ bool_byte b → Counted paths next (count + x)
      counted-more [] l i j c e k = absurd (omega arith)
      counted-more (a ∷ []) l i j c e k = absurd (omega arith)
      counted-more (a ∷ (b ∷ ps)) l i j c {b = d} e k = rw (j, k) (more a b ps c d (rw (ep, eq, i, z) at e))

      pub counted-stop : (rest : List ℕ) → n ≤ length rest → pair ≡ take n rest → Counted paths rest count → another s p q ≡ None → None ≡ count_agreeing s paths
      counted-stop [] l i c e = absurd (omega arith)
      counted-stop (a ∷ []) l i c e = absurd (omega arith)
      counted-stop (a ∷ (b ∷ ps)) l i c e = stop a b ps c (rw (ep, eq, i, z) at e)
