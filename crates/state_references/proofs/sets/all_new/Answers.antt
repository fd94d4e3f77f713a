use native.Mathlib.Omega.{arith}
use Rattle.state_references.proofs.Meeting.{meets_next, meets_stop, meets_all, meets_marked}
use Rattle.state_references.proofs.sets.all_new.Goals as goal

pub returns-in_default-clause-answer : goal.returns-in_default-clause-answer
returns-in_default-clause-answer g c = meets_stop c.loop-word.invariant (omega arith) (rw c.position.ensures at c.key_part-key.ensures) c.mark_new.ensures c.in_default.is

pub loop-word-preserved : goal.loop-word-preserved
loop-word-preserved g c = meets_next c.loop-word.invariant (omega arith) (rw c.position.ensures at c.key_part-key.ensures) c.mark_new.ensures c.in-Some.is

pub returns-clause-answer : goal.returns-clause-answer
returns-clause-answer g c = meets_all c.loop-word.invariant (omega arith)

pub returns-clause-marked : goal.returns-clause-marked
returns-clause-marked g c = λ _. meets_marked c.loop-word.invariant (omega arith)
