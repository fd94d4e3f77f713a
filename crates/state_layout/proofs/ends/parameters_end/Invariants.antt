use Rattle.format.specs.Format.{text, ◌then◌}
use Rattle.format.specs.Manifest.{value}
use Rattle.state_layout.proofs.ends.parameters_end.Given as goal

abbrev pub ghost-list_end : goal.ghost-list_end
ghost-list_end a = text then value
