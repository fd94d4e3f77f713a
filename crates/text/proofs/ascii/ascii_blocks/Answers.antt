use Rattle.text.proofs.Passing.{onward, ascii-block}
use native.Mathlib.Omega.{arith}
use Rattle.text.proofs.ascii.ascii_blocks.Goals as goal

pub loop-at-preserved : goal.loop-at-preserved
loop-at-preserved c = onward c.loop-at.invariant (ascii-block _ _ _ (omega arith) (omega arith))
