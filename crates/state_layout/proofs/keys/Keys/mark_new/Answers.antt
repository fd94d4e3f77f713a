use native.Mathlib.Omega.{arith}
use Rattle.std.proofs.lemmas.List.{set-get_or}
use Rattle.state_layout.proofs.Meeting.{met_new, met_before}
use Rattle.state_layout.proofs.keys.Keys.mark_new.Goals as goal

pub offset_bounds-marks-i : goal.offset_bounds-marks-i
offset_bounds-marks-i g c = omega (arith, c.find.ensures.at _ c.in_ok-i.was, c.requires)

pub bounds-marks-i : goal.bounds-marks-i
bounds-marks-i g c = omega (arith, c.find.ensures.at _ c.in_ok-i.was, c.requires)

pub returns-then-mark-ne0 : goal.returns-then-mark-ne0
returns-then-mark-ne0 g c = rw (set-get_or c.args.marks.now c.in_ok-i.i 0) (met_before _ _ _ _ c.args.self.ascends c.find.ensures c.in_ok-i.was c.if-mark-ne0.true)

pub returns : goal.returns
returns g c = met_new _ _ _ _ c.args.self.ascends c.find.ensures c.in_ok-i.was (omega arith)
