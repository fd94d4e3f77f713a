use Rattle.format.specs.Format.{late, plain, text}
use Rattle.format.specs.Manifest.{section, value}
use Rattle.state_sections.proofs.lists.read_parameters.Given as goal

abbrev pub ghost-read_ascending : goal.ghost-read_ascending
ghost-read_ascending a = section 6 (late plain) text value
