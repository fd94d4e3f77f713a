use Rattle.state_declarations.proofs.Holds.{each-no, each-next, each-end}
use Rattle.state_declarations.proofs.blocks.each_holds.Goals as goal

pub returns-then-not-holds : goal.returns-then-not-holds
returns-then-not-holds g c = each-no _ _ g.asked.test _ _ _ c.loop-i.invariant c.loop-i-test.true (c.requires.1.1.1.1.1.1 _ _ _ c.holds.ensures) c.if-not-holds.true

pub loop-i-preserved : goal.loop-i-preserved
loop-i-preserved g c =
    each-next _ _ g.asked.test _ _ _ c.loop-i.invariant c.loop-i-test.true (c.requires.1.1.1.1.1.1 _ _ _ c.holds.ensures) c.if-not-holds.false (c.requires.1.1.1.1.0 _ _ c.entry_end-p.ensures)

pub returns : goal.returns
returns g c = each-end g.asked.entry c.args.s.now g.asked.test _ _ _ c.loop-i.invariant c.loop-i-test.false
