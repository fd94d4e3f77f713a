use Rattle.format.specs.Format.{text}
use Rattle.state_layout.proofs.ends.optional_text_end.Given as goal

abbrev pub ghost-optional_end : goal.ghost-optional_end
ghost-optional_end a = text
