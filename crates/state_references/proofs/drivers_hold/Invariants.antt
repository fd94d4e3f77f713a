use Rattle.state_references.specs.Known.{drives_at}
use Rattle.state_references.proofs.drivers_hold.Given as goal

abbrev pub ghost-entries_hold : goal.ghost-entries_hold
ghost-entries_hold a = drives_at
