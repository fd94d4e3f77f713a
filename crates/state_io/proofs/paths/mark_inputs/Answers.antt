use native.Mathlib.Omega.{arith}
use mathlib.Core.Path.{◌≡◌, refl}
use lib.ListN.{length, replicate}
use Rattle.std.proofs.lemmas.Grind.{common_steps}
use Rattle.state_io.proofs.Gathered.{marking-start, marking-next}
use Rattle.state_io.proofs.paths.mark_inputs.Goals as goal

pub loop-input-init : goal.loop-input-init
loop-input-init c =
    let e : c.fill.new.self ≡ replicate (length c.args.connectors.words.now) 0 = grind (arith, common_steps) in
    marking-start _ _ c.args.inputs.now e

pub overflow_add-hint : goal.overflow_add-hint
overflow_add-hint c = omega (arith, c.mark.ensures.found.at c.in-Some.i c.in-Some.is)

pub loop-input-preserved : goal.loop-input-preserved
loop-input-preserved c = marking-next _ _ _ c.loop-input.invariant c.loop-input-test.true refl (rw c.position.ensures at c.key_part-key.ensures) c.mark.ensures
