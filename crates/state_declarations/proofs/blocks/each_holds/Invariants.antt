use mathlib.Core.Path.{◌≡◌}
use Prim.Native.Nat.{◌-◌}
use Rattle.state_declarations.specs.Each.{each_from, each_in}
use Rattle.state_declarations.proofs.blocks.each_holds.Given as goal

abbrev pub invariant-loop-i : goal.invariant-loop-i
invariant-loop-i g l = each_from g.asked.entry l.s g.asked.test l.i (l.i-end - l.i) l.p ≡ each_in g.asked.entry l.s g.asked.test l.at
