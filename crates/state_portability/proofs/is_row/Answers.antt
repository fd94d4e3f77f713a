use native.Mathlib.Omega.{arith}
use mathlib.Core.Path.{◌∙◌}
use Rattle.state_portability.proofs.Padded.{row_long, row_fits, row_front, other_length, other_end, bytes-same}
use Rattle.state_portability.proofs.is_row.Goals.{then-class-n, else-class-n}
use Rattle.state_portability.proofs.is_row.Goals as goal

pub overflow_sub-n : goal.overflow_sub-n
overflow_sub-n c = omega (arith, row_long c.args.row, row_fits c.args.row c.requires)

pub returns-then-class-n-2 : goal.returns-then-class-n-2
returns-then-class-n-2 c = rw (row_front c.args.row) at c.eq.ensures ∙ bytes-same c.args.class.now _

pub returns-else-class-n-2 : goal.returns-else-class-n-2
returns-else-class-n-2 c = elim c.if-class-n.branch [
  | then-class-n w ↦ other_end c.args.row c.args.class.now c.requires w.value-is c.if-class-n-2.false
  | else-class-n w ↦ c.if-class-n-2.false ∙ other_length c.args.row c.args.class.now w.if-class-n.false
]
