use Rattle.format.specs.Format.{text}
use Rattle.state_layout.proofs.ends.members_end.Given as goal

abbrev pub ghost-list_end : goal.ghost-list_end
ghost-list_end a = text
