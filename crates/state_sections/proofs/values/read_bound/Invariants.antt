use Rattle.format.specs.Manifest.{value}
use Rattle.state_sections.proofs.values.read_bound.Given as goal

abbrev pub ghost-read_optional : goal.ghost-read_optional
ghost-read_optional a = value
