use Rattle.state_references.specs.Known.{joins_at}
use Rattle.state_references.proofs.ask_references.Given as goal

abbrev pub ghost-entries_hold : goal.ghost-entries_hold
ghost-entries_hold a = joins_at
