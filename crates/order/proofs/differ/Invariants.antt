use lib.ListN.{take}
use Prim.Native.Nat.{◌+◌}
use mathlib.Core.Bool.{false}
use mathlib.Core.Path.{◌≡◌}
use Rattle.order.proofs.differ.Given as goal

abbrev pub invariant-loop-i : goal.invariant-loop-i
invariant-loop-i l = (l.d ≡ false → take (l.at + l.i) l.a ≡ take (l.at + l.i) l.b) × (take (l.at + l.i) l.a ≡ take (l.at + l.i) l.b → l.d ≡ false)
