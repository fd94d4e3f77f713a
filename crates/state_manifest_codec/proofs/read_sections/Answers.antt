use mathlib.Core.Path.{refl}
use native.Mathlib.Omega.{arith}
use Rattle.state_manifest_codec.proofs.Filling.{fills-stop}
use Rattle.state_manifest_codec.proofs.Sections.{fills-stored, manifest-stop, reading-start, reading-space, reading-stop, reading-takes, reading-on, reading-end}
use Rattle.state_manifest_codec.proofs.read_sections.Goals as goal

pub returns-in_default : goal.returns-in_default
returns-in_default c = fills-stop (manifest-stop _ _ c.read_portability-first.ensures c.in_default.is) c.in_default.is refl

pub loop-section-init : goal.loop-section-init
loop-section-init c = reading-start c.requires c.read_portability-first.ensures c.in-Ok.is

pub read_list-list-requires : goal.read_list-list-requires
read_list-list-requires c = rw c.from.ensures (reading-space c.loop-section.invariant (omega arith) refl)

pub returns-in_default-list : goal.returns-in_default-list
returns-in_default-list c = rw c.from.ensures (fills-stored _ (reading-stop c.loop-section.invariant (omega arith) refl c.read_list-list.ensures (rw c.from.ensures at c.read_list-list.auto.index) c.in_default-list.is c.in_default-list.is))

pub number_at-requires-clause-fits : goal.number_at-requires-clause-fits
number_at-requires-clause-fits c = let t = reading-takes c.loop-section.invariant (omega arith) refl c.read_list-list.ensures (rw c.from.ensures at c.read_list-list.auto.index) c.in-Ok-list.is in omega (arith, t.0, t.1)

pub overflow_add-word : goal.overflow_add-word
overflow_add-word c = let t = reading-takes c.loop-section.invariant (omega arith) refl c.read_list-list.ensures (rw c.from.ensures at c.read_list-list.auto.index) c.in-Ok-list.is in omega (arith, t.0, t.1, c.loop-section.invariant.used, c.number_at.ensures, c.requires.short)

pub loop-section-preserved : goal.loop-section-preserved
loop-section-preserved c = rw c.from.ensures (reading-on c.loop-section.invariant (omega arith) refl c.read_list-list.ensures (rw c.from.ensures at c.read_list-list.auto.index) c.in-Ok-list.is c.number_at.ensures)

pub returns : goal.returns
returns c = fills-stored _ (reading-end c.loop-section.invariant (omega arith))
