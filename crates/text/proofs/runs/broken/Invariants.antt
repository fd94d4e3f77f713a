use Rattle.text.specs.Blocks.{CleanUpTo}
use mathlib.Core.Path.{◌≡◌}
use mathlib.Core.Bool.{false}
use Prim.Native.Nat.{◌+◌}
use Rattle.text.proofs.runs.broken.Given as goal

abbrev pub invariant-loop-i : goal.invariant-loop-i
invariant-loop-i l = l.bad ≡ false → CleanUpTo l.s l.at (l.at + l.i)
