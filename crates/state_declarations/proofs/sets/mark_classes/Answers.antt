use Rattle.state_declarations.proofs.Meeting.{each_join, each_fail}
use Rattle.state_declarations.proofs.sets.mark_classes.Goals as goal

pub returns-in_err-mark_each : goal.returns-in_err-mark_each
returns-in_err-mark_each c = each_fail c.mark_each.ensures _ c.in_err-mark_each.was c.from_residual.ensures

pub returns : goal.returns
returns c = each_join c.mark_each.ensures c.in_ok-mark_each.was c.mark_each-2.ensures
