use native.Mathlib.Omega.{arith}
use mathlib.Core.Path.{ap}
use lib.ListN.{length}
use Rattle.state_references.proofs.Meeting.{marks_front}
use Rattle.state_references.proofs.all_listed_new.Goals as goal

pub returns-clause-marked : goal.returns-clause-marked
returns-clause-marked g c = λ y.
    marks_front c.all_new.new.marks c.split_at_mut-marks.result.1.now
    (omega (arith, c.all_new.auto.marks, c.split_at_mut-marks.ensures.front_len, ap length c.table.ensures))
    (rw (c.keys-keys.ensures.0, c.keys-keys.ensures.1, c.table-2.ensures) at c.all_new.ensures.marked y)
