use Rattle.format.specs.Manifest.{numbered}
use Rattle.state_references.proofs.Meeting.{Meets}
use Rattle.state_references.proofs.sets.all_new.Given as goal

abbrev pub invariant-loop-word : goal.invariant-loop-word
invariant-loop-word g l = Meets (numbered g.row.SECTION) l.keys.s.now l.keys.words.now l.listed l.marks l.word-index
