use Rattle.text.proofs.Blocks.{clean-more, clean-part}
use native.Mathlib.Omega.{arith}
use Rattle.text.proofs.runs.clean_end.Goals as goal
use Rattle.text.proofs.runs.clean_end.Goals.{else-left-gt16-via-then-left-gt16+else-broken, else-left-gt16-via-else-left-gt16}

pub returns : goal.returns
returns c =
    let d = c.broken-2.ensures c.if-broken-2.false in
    elim c.else-left-gt16.branch [
      | else-left-gt16-via-then-left-gt16+else-broken w ↦ clean-more (w.broken.ensures w.if-broken.false) (clean-part _ _ d (omega arith) (omega arith) (omega arith))
      | else-left-gt16-via-else-left-gt16 w ↦ clean-part _ _ d (omega arith) (omega arith) (omega arith)
    ]
