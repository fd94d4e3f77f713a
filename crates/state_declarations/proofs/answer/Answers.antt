use Prim.Native.Nat.{ℕ}
use native.Mathlib.Omega.{arith}
use lib.ListN.{length-take, length-append, length-drop}
use Rattle.state_declarations.proofs.Asking.{classes_fit, connectors_fit, blocks_well}
use Rattle.state_declarations.proofs.answer.Goals as goal

pub blocks_answer-requires-clause-all : goal.blocks_answer-requires-clause-all
blocks_answer-requires-clause-all c = blocks_well c.args.m.laid c.keys-classes.ensures c.table-blocks.ensures

pub slice_bounds-ports_are-end : goal.slice_bounds-ports_are-end
slice_bounds-ports_are-end c = connectors_fit c.args.m.laid c.keys-connectors.ensures c.requires.long

pub slice_bounds-ports_are-end-2 : goal.slice_bounds-ports_are-end-2
slice_bounds-ports_are-end-2 c = omega (arith, length-take {A = ℕ}, connectors_fit c.args.m.laid c.keys-connectors.ensures c.requires.long)

pub ports_are-requires : goal.ports_are-requires
ports_are-requires c = omega (arith, length-take {A = ℕ}, connectors_fit c.args.m.laid c.keys-connectors.ensures c.requires.long)

-- marking the connectors leaves the room as long as it was
pub slice_bounds-marks-end : goal.slice_bounds-marks-end
slice_bounds-marks-end c =
    let k = connectors_fit c.args.m.laid c.keys-connectors.ensures c.requires.long in
    omega (arith, length-append {A = ℕ}, length-drop {A = ℕ}, length-take {A = ℕ}, classes_fit c.args.m.laid c.keys-classes.ensures c.requires.long)

pub slice_bounds-marks-end-2 : goal.slice_bounds-marks-end-2
slice_bounds-marks-end-2 c =
    let k = connectors_fit c.args.m.laid c.keys-connectors.ensures c.requires.long in
    omega (arith, length-append {A = ℕ}, length-drop {A = ℕ}, length-take {A = ℕ}, classes_fit c.args.m.laid c.keys-classes.ensures c.requires.long)

pub classes_are-requires : goal.classes_are-requires
classes_are-requires c =
    let k = connectors_fit c.args.m.laid c.keys-connectors.ensures c.requires.long in
    omega (arith, length-append {A = ℕ}, length-drop {A = ℕ}, length-take {A = ℕ}, classes_fit c.args.m.laid c.keys-classes.ensures c.requires.long)
