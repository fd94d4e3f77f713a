use Rattle.text.specs.Blocks.{Passed}
use lib.ListN.{length}
use Prim.Native.Nat.{◌-◌}
use Rattle.text.proofs.text_run.Given as goal

abbrev pub invariant-loop-on : goal.invariant-loop-on
invariant-loop-on l = Passed l.s l.from l.at

abbrev pub decreases-loop-on : goal.decreases-loop-on
decreases-loop-on l = length l.s - l.at
