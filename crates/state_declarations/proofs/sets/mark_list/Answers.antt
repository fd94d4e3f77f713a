use Rattle.state_declarations.proofs.Meeting.{marking-fail, marking-next, marking-end, list-next, list-end}
use Rattle.state_declarations.proofs.sets.mark_list.Goals as goal

pub returns-in_err-next : goal.returns-in_err-next
returns-in_err-next g c =
    marking-fail c.loop.invariant _ (list-next _ _ g.named.names _ _ _ c.loop-test.true (c.requires.1.1.1.1.1.0 _ _ c.entry_end-end.ensures)) (c.requires.1.1.1.1.1.1.1 _ _ _ _ _ _ c.mark_entry.ensures) c.in_err-next.was c.from_residual.ensures

pub loop-preserved : goal.loop-preserved
loop-preserved g c =
    marking-next c.loop.invariant _ (list-next _ _ g.named.names _ _ _ c.loop-test.true (c.requires.1.1.1.1.1.0 _ _ c.entry_end-end.ensures)) (c.requires.1.1.1.1.1.1.1 _ _ _ _ _ _ c.mark_entry.ensures) c.in_ok-next.was

pub returns : goal.returns
returns g c = marking-end c.loop.invariant (list-end g.named.entry c.args.s.now g.named.names _ _ _ c.loop-test.false) _
