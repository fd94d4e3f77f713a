use Rattle.state_io.proofs.Gathered.{Marking}
use Rattle.state_io.proofs.paths.mark_inputs.Given as goal

abbrev pub invariant-loop-input : goal.invariant-loop-input
invariant-loop-input l = Marking l.connectors.s.now l.connectors.words.now l.inputs l.marks l.input-index
