use Rattle.text.proofs.Blocks.{clean-more}
use Rattle.text.proofs.runs.clean_blocks.Goals as goal

pub returns-then-ascii_next : goal.returns-then-ascii_next
returns-then-ascii_next c = clean-more c.loop-at.invariant (c.broken.ensures c.if-broken.false)

pub loop-at-preserved : goal.loop-at-preserved
loop-at-preserved c = clean-more c.loop-at.invariant (c.broken.ensures c.if-broken.false)
