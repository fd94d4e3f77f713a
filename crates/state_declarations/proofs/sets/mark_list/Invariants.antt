use Prim.Native.Nat.{◌-◌}
use Rattle.state_declarations.specs.Each.{names_from, names_in}
use Rattle.state_declarations.proofs.Meeting.{Marking}
use Rattle.state_declarations.proofs.sets.mark_list.Given as goal

abbrev pub invariant-loop : goal.invariant-loop
invariant-loop g l = Marking g.named.listed (names_in g.named.entry l.s g.named.names l.at) (names_from g.named.entry l.s g.named.names (l.end - l.counter) l.p) l.initial.marks l.marks
