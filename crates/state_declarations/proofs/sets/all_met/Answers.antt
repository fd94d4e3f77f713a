use Rattle.state_declarations.proofs.Meeting.{unlisted, all_listed}
use Rattle.state_declarations.proofs.sets.all_met.Goals as goal

pub returns-then-is_some : goal.returns-then-is_some
returns-then-is_some c listed names old m o = all_listed m c.is_some.ensures c.if-is_some.true o c.all_marked.ensures

pub returns-else-is_some : goal.returns-else-is_some
returns-else-is_some c listed names old m o = unlisted m c.is_some.ensures c.if-is_some.false
