use lib.ListN.{drop}
use Rattle.questions.specs.Sets.{gather}
use Rattle.state_declarations.proofs.Meeting.{Marking}
use Rattle.state_declarations.proofs.sets.mark_each.Given as goal

abbrev pub invariant-loop-word : goal.invariant-loop-word
invariant-loop-word g l = Marking g.named.listed (gather g.named.names l.words) (gather g.named.names (drop l.word-index l.words)) l.initial.marks l.marks
