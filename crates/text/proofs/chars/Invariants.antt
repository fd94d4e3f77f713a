use Rattle.text.specs.Blocks.{Passed}
use lib.ListN.{length}
use Prim.Native.Nat.{◌-◌}
use Rattle.text.proofs.chars.Given as goal

abbrev pub invariant-loop-width : goal.invariant-loop-width
invariant-loop-width l = Passed l.s l.from l.at

abbrev pub decreases-loop-width : goal.decreases-loop-width
decreases-loop-width l = length l.s - l.at
