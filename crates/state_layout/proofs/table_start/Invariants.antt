use Rattle.state_layout.proofs.Indexed.{Reaching}
use Rattle.state_layout.proofs.table_start.Given as goal

abbrev pub invariant-loop-k : goal.invariant-loop-k
invariant-loop-k l = Reaching l.s l.index l.section l.w l.k
