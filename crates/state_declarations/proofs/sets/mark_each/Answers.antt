use Rattle.state_declarations.proofs.Meeting.{marking-fail, marking-next, marking-end, words-next, words-end}
use Rattle.state_declarations.proofs.sets.mark_each.Goals as goal

pub returns-in_err-next : goal.returns-in_err-next
returns-in_err-next g c =
    marking-fail c.loop-word.invariant _ (words-next g.named.names _ _ c.loop-word-test.true) (rw c.position.ensures at (c.requires.1.1.1.1 _ _ _ _ _ c.mark_entry.ensures)) c.in_err-next.was c.from_residual.ensures

pub loop-word-preserved : goal.loop-word-preserved
loop-word-preserved g c = marking-next c.loop-word.invariant _ (words-next g.named.names _ _ c.loop-word-test.true) (rw c.position.ensures at (c.requires.1.1.1.1 _ _ _ _ _ c.mark_entry.ensures)) c.in_ok-next.was

pub returns : goal.returns
returns g c = marking-end c.loop-word.invariant (words-end g.named.names _ _ c.loop-word-test.false) _
