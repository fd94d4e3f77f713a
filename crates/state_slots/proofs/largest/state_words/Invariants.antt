use Prim.Native.Nat.{◌-◌}
use Rattle.state_slots.proofs.WordTotal.{Walking}
use Rattle.state_slots.proofs.largest.state_words.Given as goal

abbrev pub invariant-loop : goal.invariant-loop
invariant-loop l = Walking l.s l.at (l.count - l.counter) l.p l.most
