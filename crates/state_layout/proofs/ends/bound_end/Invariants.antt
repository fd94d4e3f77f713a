use Rattle.format.specs.Manifest.{value}
use Rattle.state_layout.proofs.ends.bound_end.Given as goal

abbrev pub ghost-optional_end : goal.ghost-optional_end
ghost-optional_end a = value
