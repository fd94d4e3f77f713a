use Rattle.format.specs.Keys.{block_key}
use Rattle.format.specs.Places.{past}
use Rattle.state_slots.proofs.Offsets.{Gathering}
use Rattle.state_slots.proofs.gather_offsets.Given as goal

abbrev pub invariant-loop-i : goal.invariant-loop-i
invariant-loop-i l = Gathering (past block_key l.s) l.slots l.offsets l.i
