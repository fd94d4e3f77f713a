use native.Mathlib.Omega.{arith}
use mathlib.Core.Path.{ap, sym}
use lib.ListN.{length}
use Rattle.std.proofs.lemmas.List.{length-take-le}
use Rattle.state_references.proofs.Answered.{room_marks}
use Rattle.state_references.proofs.require_exact_set.Goals as goal

pub slice_bounds-all_marked-end-then-all_listed_new : goal.slice_bounds-all_marked-end-then-all_listed_new
slice_bounds-all_marked-end-then-all_listed_new g c =
    let h = c.requires in
    sym (length-take-le _ c.all_listed_new.new.room (omega (arith, c.all_listed_new.auto.room, ap length c.table-count.ensures, room_marks c.args.m.laid g.row.SECTION c.args.room.now h.section.0 h.section.1 h.roomy)))
