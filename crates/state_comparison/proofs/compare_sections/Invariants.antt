use Rattle.state_comparison.proofs.Verdicts.{Left}
use Rattle.state_comparison.proofs.compare_sections.Given as goal

abbrev pub invariant-loop-k : goal.invariant-loop-k
invariant-loop-k l = Left l.s l.t l.k
