use Rattle.text.proofs.Blocks.{clean-none, clean-next, clean-part}
use mathlib.Core.Path.{refl}
use native.Mathlib.Omega.{arith}
use Rattle.text.proofs.runs.opening.Goals as goal

pub returns : goal.returns
returns c =
    let s = c.args.s.now in
    let one = clean-next {s = s} 1 (clean-none s 0 0 refl (omega arith)) refl (omega arith) (c.flaw.ensures c.if-flaw.false) in
    let two = clean-next {s = s} 2 one refl (omega arith) (c.flaw-else-flaw.ensures c.if-flaw-2.false) in
    (omega arith, clean-part _ _ (clean-next {s = s} 3 two refl (omega arith) (c.flaw-else-flaw-2.ensures c.if-flaw-3.false)) (omega arith) (omega arith) (omega arith))
