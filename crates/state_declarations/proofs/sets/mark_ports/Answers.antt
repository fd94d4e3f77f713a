use Rattle.state_declarations.proofs.Meeting.{each_join, each_fail}
use Rattle.state_declarations.proofs.sets.mark_ports.Goals as goal

pub returns-in_err-next : goal.returns-in_err-next
returns-in_err-next c = rw (← c.parameters_at.ensures, ← c.parameters_end-inputs.ensures) (each_fail c.mark_keys.ensures _ c.in_err-next.was c.from_residual.ensures)

pub returns : goal.returns
returns c = rw (← c.parameters_at.ensures, ← c.parameters_end-inputs.ensures, ← c.connector_keys_end.ensures) (each_join c.mark_keys.ensures c.in_ok-next.was c.mark_keys-2.ensures)
