use native.Mathlib.Omega.{arith}
use Rattle.state_layout.proofs.Meeting.{met}
use Rattle.state_layout.proofs.keys.Keys.mark.Goals as goal

pub offset_bounds-marks-i : goal.offset_bounds-marks-i
offset_bounds-marks-i g c = omega (arith, c.find.ensures.at _ c.in_ok-i.was, c.requires)

pub bounds-marks-i : goal.bounds-marks-i
bounds-marks-i g c = omega (arith, c.find.ensures.at _ c.in_ok-i.was, c.requires)

pub returns : goal.returns
returns g c = met _ _ _ _ c.args.self.ascends c.find.ensures c.in_ok-i.was
