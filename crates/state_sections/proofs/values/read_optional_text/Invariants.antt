use Rattle.format.specs.Format.{text}
use Rattle.state_sections.proofs.values.read_optional_text.Given as goal

abbrev pub ghost-read_optional : goal.ghost-read_optional
ghost-read_optional a = text
