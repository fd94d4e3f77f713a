use Prim.Native.Nat.{◌≤◌}
use lib.ListN.{length, take}
use mathlib.Core.Path.{◌≡◌}
use Rattle.order.proofs.compare.Given as goal

abbrev pub invariant-loop-n : goal.invariant-loop-n
invariant-loop-n l = (l.i ≤ length l.a) × (l.i ≤ length l.b) × (take l.i l.a ≡ take l.i l.b)

abbrev pub invariant-loop-k : goal.invariant-loop-k
invariant-loop-k l = (l.k ≤ length l.a) × (l.k ≤ length l.b) × (take l.k l.a ≡ take l.k l.b)
