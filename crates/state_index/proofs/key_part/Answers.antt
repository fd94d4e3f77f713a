use native.Mathlib.Omega.{arith}
use mathlib.Core.Path.{◌∙◌}
use Rattle.state_index.proofs.Sections.{text-key, full-key}
use Rattle.state_index.proofs.key_part.Goals as goal

pub returns-in-3-to-11 : goal.returns-in-3-to-11
returns-in-3-to-11 c = c.part.ensures ∙ full-key _ _ _ (omega arith) (omega arith) c.key_end.ensures

pub returns-in_default : goal.returns-in_default
returns-in_default c = c.text_part.ensures ∙ text-key _ _ _ (grind arith)
