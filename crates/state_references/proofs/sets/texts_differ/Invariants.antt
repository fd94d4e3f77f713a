use Rattle.state_references.proofs.Copied.{Copied}
use Rattle.state_references.proofs.sets.texts_differ.Given as goal

abbrev pub invariant-loop-i : goal.invariant-loop-i
invariant-loop-i l = Copied l.names l.initial.room l.room l.i
