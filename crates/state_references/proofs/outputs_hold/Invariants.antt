use Rattle.state_references.specs.Known.{source_at}
use Rattle.state_references.proofs.outputs_hold.Given as goal

abbrev pub ghost-entries_hold : goal.ghost-entries_hold
ghost-entries_hold a = source_at
