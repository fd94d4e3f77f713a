use native.Mathlib.Omega.{arith}
use Rattle.state_layout.proofs.Meeting.{met}
use Rattle.state_layout.proofs.keys.mark.Goals as goal

pub offset_bounds-marks-place : goal.offset_bounds-marks-place
offset_bounds-marks-place c = omega (arith, c.find_in.ensures.at _ c.in_ok-place.was, c.requires.long)

pub bounds-marks-place : goal.bounds-marks-place
bounds-marks-place c = omega (arith, c.find_in.ensures.at _ c.in_ok-place.was, c.requires.long)

pub returns : goal.returns
returns c = met _ _ _ _ c.requires.ascends c.find_in.ensures c.in_ok-place.was
