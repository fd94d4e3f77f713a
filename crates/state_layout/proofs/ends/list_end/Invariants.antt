use Prim.Native.Nat.{◌-◌}
use mathlib.Core.Path.{◌≡◌}
use Rattle.format.specs.Format.{done, free, list}
use Rattle.format.specs.Places.{past}
use Rattle.state_layout.proofs.Choosing.{entries_end}
use Rattle.state_layout.proofs.ends.list_end.Given as goal

abbrev pub invariant-loop : goal.invariant-loop
invariant-loop g l = entries_end g.entry l.s (l.end - l.counter) l.p ≡ past (list 4 0 free g.entry done) l.s l.at
