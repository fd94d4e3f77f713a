use native.Mathlib.Omega.{arith}
use mathlib.Core.Path.{◌≡◌, refl, sym, ap, ◌∙◌}
use mathlib.Core.Bool.{true}
use Rattle.std.specs.Prelude.{Err}
use Rattle.state_wire.specs.Fields.{max_snapshot_bytes}
use Rattle.state_sections.specs.declared.layouts.Asked.TheVariants.{AfterKey}
use Rattle.state_sections.proofs.Filling.{lists-stop}
use Rattle.state_sections.proofs.Laid.{asked_on, asked_off}
use Rattle.state_sections.proofs.Walking.{walk-stop, walk_start, walk_end, walk-key-stop, walk-space, walk-key-low, walk-rest-stop, walk-low, walk-word, walk-on}
use Rattle.state_sections.proofs.tables.walk_with.Goals.{else-not-ordered-via-then-not-ordered+else-eq, else-not-ordered-via-else-not-ordered}
use Rattle.state_sections.proofs.tables.walk_with.Goals as goal

pub returns-in_default : goal.returns-in_default
returns-in_default g c = walk-stop max_snapshot_bytes _ _ _ c.layout_of-layout.ensures c.read_count-count.ensures c.in_default.is c.step_of.ensures

pub loop-w-init : goal.loop-w-init
loop-w-init g c = walk_start max_snapshot_bytes _ _ _ c.layout_of-layout.ensures c.read_count-count.ensures c.in-Ok.is (omega arith)

pub returns-in_default-key : goal.returns-in_default-key
returns-in_default-key g c = lists-stop (walk-key-stop c.loop-w.invariant (omega arith) (c.requires.key _ _ c.read_key-key.ensures) c.in_default-key.is) c.in_default-key.is

pub returns-then-eq : goal.returns-then-eq
returns-then-eq g c = lists-stop (ap Err c.at.ensures ∙ walk-key-low c.loop-w.invariant (omega arith) (c.requires.key _ _ c.read_key-key.ensures) c.in-Ok-key.is (λ q. c.in_order-ordered.ensures.asked q ∙ rw c.part-ranked.ensures) c.in_order-ordered.ensures.unasked c.if-not-ordered.true (asked_on _ (sym c.eq.ensures ∙ c.if-eq.true))) refl

pub read_rest-rest-requires : goal.read_rest-rest-requires
read_rest-rest-requires g c = c.requires.rest_callable _ _ (walk-space c.loop-w.invariant (omega arith) (c.requires.key _ _ c.read_key-key.ensures) c.in-Ok-key.is c.requires.room c.loop-w.auto.index)

pub returns-in_default-rest : goal.returns-in_default-rest
returns-in_default-rest g c = lists-stop (walk-rest-stop c.loop-w.invariant (omega arith) (c.requires.key _ _ c.read_key-key.ensures) c.in-Ok-key.is (λ q. c.in_order-ordered.ensures.asked q ∙ rw c.part-ranked.ensures) c.in_order-ordered.ensures.unasked
    (let tb : c.layout_of-layout.result.asked ≡ AfterKey → c.in_order-ordered.result ≡ true = λ q. elim c.else-not-ordered.branch [ else-not-ordered-via-then-not-ordered+else-eq w ↦ absurd (asked_off _ (sym w.eq.ensures ∙ w.if-eq.false) q) | else-not-ordered-via-else-not-ordered w ↦ w.if-not-ordered.false ] in tb) (c.requires.rest _ _ _ _ c.read_rest-rest.ensures (walk-space c.loop-w.invariant (omega arith) (c.requires.key _ _ c.read_key-key.ensures) c.in-Ok-key.is c.requires.room c.loop-w.auto.index)) c.in_default-rest.is) c.in_default-rest.is

pub returns-then-not-ordered-2 : goal.returns-then-not-ordered-2
returns-then-not-ordered-2 g c = lists-stop (ap Err c.at-then-not-ordered-2.ensures ∙ walk-low c.loop-w.invariant (omega arith) (c.requires.key _ _ c.read_key-key.ensures) c.in-Ok-key.is (λ q. c.in_order-ordered.ensures.asked q ∙ rw c.part-ranked.ensures) c.in_order-ordered.ensures.unasked
    (let tb : c.layout_of-layout.result.asked ≡ AfterKey → c.in_order-ordered.result ≡ true = λ q. elim c.else-not-ordered.branch [ else-not-ordered-via-then-not-ordered+else-eq w ↦ absurd (asked_off _ (sym w.eq.ensures ∙ w.if-eq.false) q) | else-not-ordered-via-else-not-ordered w ↦ w.if-not-ordered.false ] in tb) (c.requires.rest _ _ _ _ c.read_rest-rest.ensures (walk-space c.loop-w.invariant (omega arith) (c.requires.key _ _ c.read_key-key.ensures) c.in-Ok-key.is c.requires.room c.loop-w.auto.index)) c.in-Ok-rest.is c.if-not-ordered-2.true) refl

pub loop-w-preserved : goal.loop-w-preserved
loop-w-preserved g c = walk-on c.loop-w.invariant (omega arith) (c.requires.key _ _ c.read_key-key.ensures) c.in-Ok-key.is (λ q. c.in_order-ordered.ensures.asked q ∙ rw c.part-ranked.ensures) c.in_order-ordered.ensures.unasked
    (let tb : c.layout_of-layout.result.asked ≡ AfterKey → c.in_order-ordered.result ≡ true = λ q. elim c.else-not-ordered.branch [ else-not-ordered-via-then-not-ordered+else-eq w ↦ absurd (asked_off _ (sym w.eq.ensures ∙ w.if-eq.false) q) | else-not-ordered-via-else-not-ordered w ↦ w.if-not-ordered.false ] in tb) (c.requires.rest _ _ _ _ c.read_rest-rest.ensures (walk-space c.loop-w.invariant (omega arith) (c.requires.key _ _ c.read_key-key.ensures) c.in-Ok-key.is c.requires.room c.loop-w.auto.index)) c.in-Ok-rest.is c.if-not-ordered-2.false (walk-word c.loop-w.invariant (omega arith) (c.requires.key _ _ c.read_key-key.ensures) c.in-Ok-key.is c.requires.room c.loop-w.auto.index) _ c.read_rest-rest.auto.arg4 c.part-ranked.ensures refl (omega arith)

pub returns : goal.returns
returns g c = walk_end c.loop-w.invariant (omega arith)
