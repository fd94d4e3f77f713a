use Prim.Native.Nat.{◌-◌}
use native.Mathlib.Omega.{arith}
use Rattle.state_slots.proofs.WordTotal.{walk_start, walk-fits, walk-next, walk_end, walk-left}
use Rattle.state_slots.proofs.largest.state_words.Goals as goal

pub loop-init : goal.loop-init
loop-init c = walk-left (walk_start _ _ c.count_at-count.ensures c.ahead-p.ensures c.requires) (omega arith)

pub overflow_add-number_at : goal.overflow_add-number_at
overflow_add-number_at c = record { fits = walk-fits _ _ _ c.block_key_end-offset.ensures c.ahead-length.ensures c.number_at.ensures c.number_at-in-loop.ensures (c.count_at-count.result - c.loop.counter) (omega arith) c.loop.invariant }

pub loop-preserved : goal.loop-preserved
loop-preserved c =
    walk-left
    (walk-next _ _ _ c.block_key_end-offset.ensures c.ahead-length.ensures c.number_at.ensures c.number_at-in-loop.ensures (c.count_at-count.result - c.loop.counter) (omega arith) c.loop.invariant c.max-most.ensures c.ahead-p-in-loop.ensures)
    (omega arith)

pub returns : goal.returns
returns c = walk_end _ _ _ (omega arith) c.loop.invariant
