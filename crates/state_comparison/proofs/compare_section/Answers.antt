use Rattle.std.proofs.Common.{rules}
use Rattle.state_comparison.specs.Comparing.{comparison}
use Rattle.state_comparison.proofs.Verdicts.{whole-differs}
use Rattle.state_comparison.proofs.compare_section.Goals as goal

pub returns-in-3 : goal.returns-in-3
unfolding comparison
returns-in-3 c = rw c.in-3.is c.compare_blocks.ensures

pub returns-in-2 : goal.returns-in-2
unfolding comparison
returns-in-2 c = rw c.in-2.is (rw c.in-2.is at c.compare_lists.ensures.verdict)

pub returns-in-4 : goal.returns-in-4
unfolding comparison
returns-in-4 c = rw c.in-4.is (rw c.in-4.is at c.compare_lists-in-4.ensures.verdict)

pub returns-in-12 : goal.returns-in-12
unfolding comparison
returns-in-12 c = rw c.in-12.is (rw c.in-12.is at c.compare_lists-in-12.ensures.verdict)

pub returns-in_default : goal.returns-in_default
returns-in_default c =
    let d = whole-differs _ _ _ _ _ c.requires.le_section (λ w. search rules) c.requires.both c.requires.apart in
    cc
