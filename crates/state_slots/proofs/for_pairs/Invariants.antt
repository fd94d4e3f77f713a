use Rattle.std.specs.Slice.Iter.{iter_rest}
use Rattle.state_slots.proofs.Walks.{Walking}
use Rattle.state_slots.proofs.for_pairs.Given as goal

abbrev pub invariant-loop-slot : goal.invariant-loop-slot
invariant-loop-slot g l = Walking g.answer l.s l.blocks l.slots (iter_rest l.left) l.slot-index
