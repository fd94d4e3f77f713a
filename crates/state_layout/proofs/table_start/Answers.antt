use native.Mathlib.Omega.{arith}
use Rattle.state_layout.proofs.Indexed.{reach_next, reach_end, reach_fits, reach_word}
use Rattle.state_layout.proofs.table_start.Goals as goal

pub overflow_add-w : goal.overflow_add-w
overflow_add-w c = omega (arith, reach_fits (reach_next c.loop-k.invariant c.loop-k-test.true c.section_start.ensures c.count_at-w.ensures))

pub returns : goal.returns
returns c = reach_end c.loop-k.invariant (omega arith)

pub section_start-requires : goal.section_start-requires
section_start-requires c = let w = reach_word c.loop-k.invariant c.loop-k-test.true in (omega (arith, c.loop-k.invariant.from), omega (arith, w, c.loop-k.invariant.from))
