use Prim.Native.Nat.{◌<◌}
use Rattle.state_index.specs.Keys.{text_at}
use Rattle.state_index.specs.Sift.{slot_at}
use Rattle.state_index.proofs.Sieve.{Held}
use Rattle.state_index.proofs.sift.sift.Given as goal

abbrev pub invariant-loop-i : goal.invariant-loop-i
invariant-loop-i l = record { fewer : l.k < l.i; held : Held (text_at l.s) (slot_at l.s l.m) l.first l.fn.positions l.positions l.slots l.k l.i }
