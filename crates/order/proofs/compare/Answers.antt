use Rattle.order.proofs.Steps.{found-apart, found-end}
use native.Mathlib.Omega.{arith}
use Rattle.order.proofs.compare.Goals as goal

pub returns-then-a-k : goal.returns-then-a-k
returns-then-a-k c = found-apart _ _ c.loop-k.k c.loop-k.invariant (omega arith) (omega arith) (λ e. omega arith) c.cmp.ensures

pub returns : goal.returns
returns c = found-end _ _ c.loop-k.k c.loop-k.invariant (omega arith) c.cmp-2.ensures (omega arith)
