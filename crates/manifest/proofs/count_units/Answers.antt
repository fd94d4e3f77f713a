use mathlib.Core.Path.{ap, ◌∙◌}
use Rattle.std.specs.Prelude.{Err}
use Rattle.std.proofs.Common.{rules}
use native.Mathlib.Omega.{arith}
use Rattle.manifest.proofs.Counting.{slots-fit, units-above, units-fit}
use Rattle.manifest.proofs.count_units.Goals as goal

pub state_words-words-requires : goal.state_words-words-requires
state_words-words-requires c = slots-fit c.requires c.section_start.ensures

pub returns-in_default : goal.returns-in_default
returns-in_default c =
    let p = units-above c.requires c.section_start.ensures c.state_words-words.ensures c.section_start-2.ensures c.count_at.ensures (grind (arith, rules)) in
    let e = c.refused.ensures in
    record { value = ap Err (rw c.at.ensures at e.value) ∙ p.0; index_after = rw c.at.ensures at e.index_after ∙ p.1 }

pub returns : goal.returns
returns c = let p = units-fit c.requires c.section_start.ensures c.state_words-words.ensures c.section_start-2.ensures c.count_at.ensures (grind (arith, rules)) (grind (arith, rules)) in record { value = p.0; index_after = p.1 }
