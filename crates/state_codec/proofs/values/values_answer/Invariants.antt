use lib.ListN.{length}
use Rattle.state_codec.proofs.Asking.{Asking}
use Rattle.state_codec.specs.Listed.{connectors_at}
use Rattle.state_layout.specs.Keys.{classes_of}
use Rattle.tail.specs.Tail.{value_answer}
use Rattle.state_codec.proofs.values.values_answer.Given as goal

abbrev pub invariant-loop-i : goal.invariant-loop-i
invariant-loop-i l =
    let connectors = connectors_at l.connectors.s.now l.connectors.words.now in
    Asking (value_answer (classes_of l.classes.s.now l.classes.words.now) connectors) l.t (length l.connectors.words.now) l.i l.p
