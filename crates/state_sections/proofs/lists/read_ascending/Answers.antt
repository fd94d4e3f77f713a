use native.Mathlib.Omega.{arith}
use mathlib.Core.Path.{refl, sym, ap, ◌∙◌}
use Rattle.std.specs.Prelude.{Err}
use Rattle.format.proofs.Entries.{going-key-stop}
use Rattle.state_sections.proofs.Ascending.{ascending-stop, ascending-start, ascending-end, ascending-rest-stop, ascending-low, ascending-on}
use Rattle.state_sections.proofs.lists.read_ascending.Goals as goal

pub returns-in_default : goal.returns-in_default
returns-in_default g c = ascending-stop _ g.e (sym c.requires.1.1.0) refl _ _ c.read_count-count.ensures c.in_default.is c.step_of.ensures

pub loop-init : goal.loop-init
loop-init g c = ascending-start _ g.e (sym c.requires.1.1.0) refl _ _ c.read_count-count.ensures c.in-Ok.is (omega arith)

pub returns-in_default-key : goal.returns-in_default-key
returns-in_default-key g c = going-key-stop c.loop.invariant (omega arith) (c.requires.1.1.1.1.0 _ _ c.read_key-key.ensures) c.in_default-key.is

pub returns-in_default-rest : goal.returns-in_default-rest
returns-in_default-rest g c = ascending-rest-stop _ g.e (sym c.requires.1.1.0) refl _ c.loop.invariant (omega arith) (c.requires.1.1.1.1.0 _ _ c.read_key-key.ensures) c.in-Ok-key.is (c.requires.1.1.1.1.1.1 _ _ c.read_rest-rest.ensures) c.in_default-rest.is

pub returns-then-not-key_above : goal.returns-then-not-key_above
returns-then-not-key_above g c = ap Err c.at.ensures ∙ ascending-low _ g.e (sym c.requires.1.1.0) refl _ c.loop.invariant (omega arith) (c.requires.1.1.1.1.0 _ _ c.read_key-key.ensures) c.in-Ok-key.is (c.requires.1.1.1.1.1.1 _ _ c.read_rest-rest.ensures) c.in-Ok-rest.is (c.key_above.ensures ∙ rw c.part-ranked.ensures) c.if-not-key_above.true

pub loop-preserved : goal.loop-preserved
loop-preserved g c = rw c.part-ranked.ensures (ascending-on _ g.e (sym c.requires.1.1.0) refl _ c.loop.invariant (omega arith) (c.requires.1.1.1.1.0 _ _ c.read_key-key.ensures) c.in-Ok-key.is (c.requires.1.1.1.1.1.1 _ _ c.read_rest-rest.ensures) c.in-Ok-rest.is (c.key_above.ensures ∙ rw c.part-ranked.ensures) c.if-not-key_above.false (omega arith))

pub returns : goal.returns
returns g c = ascending-end _ g.e (sym c.requires.1.1.0) refl _ c.loop.invariant (omega arith)
