use Prim.Native.Nat.{◌<◌, ◌-◌}
use native.Mathlib.Omega.{arith}
use mathlib.Core.Path.{refl}
use lib.ListN.{length}
use Rattle.state_sections.proofs.Filling.{going-left, filling-left, filling-on, filling-done, lists-stop, entry-end}
use Rattle.state_wire.proofs.Fields.{text-ends}
use Rattle.format.proofs.Steps.{text-step, done-step}
use Rattle.format.proofs.Entries.{going-free, going_end, going-key-stop}
use Rattle.state_sections.proofs.tables.read_names.Goals as goal

pub returns-in_default : goal.returns-in_default
returns-in_default c =
    let h : 0 < length c.args.names.now - c.loop-word.word-index = omega arith in
    lists-stop (going-key-stop c.loop-word.invariant.going h (text-step _ _ _ c.string-name.ensures) c.in_default.is) c.in_default.is

pub loop-word-preserved : goal.loop-word-preserved
loop-word-preserved c =
    let h : 0 < length c.args.names.now - c.loop-word.word-index = omega arith in
    record {
      going = going-left (going-free c.loop-word.invariant.going h (text-step _ _ _ c.string-name.ensures) c.in-Ok.is) (omega arith);
      filling = filling-left (filling-on c.loop-word.invariant.filling h _ refl (omega arith) (entry-end _ _ _ _ _ (text-step _ _ _ c.string-name.ensures) c.in-Ok.is (done-step _ _ _) refl) (omega (arith, (text-ends _ _ _ c.string-name.ensures c.in-Ok.is).0)) refl) (omega arith);
    }

pub returns : goal.returns
returns c = filling-done c.loop-word.invariant.filling (omega arith) (going_end c.loop-word.invariant.going (omega arith) refl)
