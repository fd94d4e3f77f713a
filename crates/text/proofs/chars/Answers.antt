use Rattle.text.proofs.Passing.{onward, further, ended}
use mathlib.Core.Path.{◌∙◌}
use native.Mathlib.Omega.{arith}
use Rattle.text.proofs.chars.Goals as goal

pub loop-width-preserved-in-1 : goal.loop-width-preserved-in-1
loop-width-preserved-in-1 c = onward c.loop-width.invariant (onward (further _ _ _ (omega arith) c.in-Some.ensures.1 _ c.in-Some.ensures.0 (omega arith)) c.ascii_bytes-at.ensures)

pub loop-width-preserved-in-2 : goal.loop-width-preserved-in-2
loop-width-preserved-in-2 c = onward c.loop-width.invariant (further _ _ _ (omega arith) c.in-Some.ensures.1 _ c.in-Some.ensures.0 (omega arith))

pub loop-width-preserved-in-3 : goal.loop-width-preserved-in-3
loop-width-preserved-in-3 c = onward c.loop-width.invariant (further _ _ _ (omega arith) c.in-Some.ensures.1 _ c.in-Some.ensures.0 (omega arith))

pub loop-width-preserved : goal.loop-width-preserved
loop-width-preserved c = onward c.loop-width.invariant (further _ _ _ (omega arith) c.in-Some.ensures.1 _ c.in-Some.ensures.0 (omega arith))

pub returns : goal.returns
returns c = ended _ _ c.char_width.result (omega arith) c.char_width.ensures c.in_default.not-Some ∙ c.loop-width.invariant.same
