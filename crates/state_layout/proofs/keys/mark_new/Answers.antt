use native.Mathlib.Omega.{arith}
use Rattle.std.proofs.lemmas.List.{set-get_or}
use Rattle.state_layout.proofs.Meeting.{met_new, met_before}
use Rattle.state_layout.proofs.keys.mark_new.Goals as goal

pub offset_bounds-marks-place : goal.offset_bounds-marks-place
offset_bounds-marks-place c = omega (arith, c.find_in.ensures.at _ c.in_ok-place.was, c.requires.long)

pub bounds-marks-place : goal.bounds-marks-place
bounds-marks-place c = omega (arith, c.find_in.ensures.at _ c.in_ok-place.was, c.requires.long)

pub returns-then-met-ne0 : goal.returns-then-met-ne0
returns-then-met-ne0 c = rw (set-get_or c.args.marks.now c.in_ok-place.place 0) (met_before _ _ _ _ c.requires.ascends c.find_in.ensures c.in_ok-place.was c.if-met-ne0.true)

pub returns : goal.returns
returns c = met_new _ _ _ _ c.requires.ascends c.find_in.ensures c.in_ok-place.was (omega arith)
