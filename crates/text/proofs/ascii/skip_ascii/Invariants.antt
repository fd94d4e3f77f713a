use Rattle.text.specs.Blocks.{Passed}
use Rattle.text.proofs.ascii.skip_ascii.Given as goal

abbrev pub invariant-loop-n : goal.invariant-loop-n
invariant-loop-n l = Passed l.s l.from l.at
