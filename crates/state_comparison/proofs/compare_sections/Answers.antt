use Rattle.std.proofs.Common.{rules}
use mathlib.Core.Path.{refl}
use Rattle.state_comparison.proofs.Verdicts.{left-start, left_end, section-both, section-apart, section-found, section-same}
use Rattle.state_comparison.proofs.compare_sections.Goals as goal

pub loop-k-init : goal.loop-k-init
loop-k-init c = left-start _ _

pub compare_section-requires-clause-both : goal.compare_section-requires-clause-both
compare_section-requires-clause-both c =
    section-both c.requires.0 c.requires.1 c.loop-k.invariant c.loop-k-test.true c.section_start.ensures c.section_start-then-apart.ensures

pub compare_section-requires-clause-apart : goal.compare_section-requires-clause-apart
compare_section-requires-clause-apart c =
    section-apart c.requires.0 c.requires.1 c.loop-k.invariant c.loop-k-test.true c.section_start.ensures c.section_start-then-apart.ensures
    c.section_part-left.ensures c.section_part-right.ensures c.same_bytes-apart.ensures (search rules)

pub returns-then-apart : goal.returns-then-apart
returns-then-apart c =
    section-found c.requires.0 c.requires.1 c.loop-k.invariant c.loop-k-test.true c.section_start.ensures c.section_start-then-apart.ensures
    c.section_part-left.ensures c.section_part-right.ensures c.same_bytes-apart.ensures (search rules) c.compare_section.ensures

pub loop-k-preserved : goal.loop-k-preserved
loop-k-preserved c =
    section-same c.requires.0 c.requires.1 c.loop-k.invariant c.loop-k-test.true refl refl
    c.section_part-left.ensures c.section_part-right.ensures c.same_bytes-apart.ensures (search rules)

pub returns : goal.returns
returns c = left_end c.loop-k.invariant c.loop-k-test.false
