use native.Mathlib.Omega.{arith}
use mathlib.Core.Path.{refl}
use Rattle.std.proofs.Common.{rules}
use Rattle.state_index.proofs.Slots.{slot-below, slots-shared}
use Rattle.state_index.proofs.Sieve.{held-filled, held-placed, held-left, held-same, held-end}
use Rattle.state_index.proofs.sift.sift.Goals as goal

pub loop-i-init : goal.loop-i-init
loop-i-init c = record {
  fewer = omega arith;
  held = held-filled _ _ _ _ _ (c.fill.ensures.after (λ y e. search rules)) refl (omega arith) (λ q. slot-below _ _ q (omega arith));
}

pub loop-i-preserved-then-is_free : goal.loop-i-preserved-then-is_free
loop-i-preserved-then-is_free c = record {
  fewer = omega arith;
  held = held-placed c.loop-i.invariant.held c.slot_at-h.ensures.value c.slot_at-own.ensures.value c.is_free.ensures c.if-is_free.true (slots-shared _ _) (omega arith) (omega arith);
}

pub returns-then-same_text-clause-alike : goal.returns-then-same_text-clause-alike
returns-then-same_text-clause-alike c = held-same c.loop-i.invariant.held (omega arith) c.slot_at-h.ensures.value c.same_text.ensures c.if-same_text.true

pub loop-i-preserved : goal.loop-i-preserved
loop-i-preserved c = record {
  fewer = omega arith;
  held = held-left c.loop-i.invariant.held (omega arith) c.slot_at-h.ensures.value c.same_text.ensures c.if-same_text.false c.slot_at-own.ensures.value c.is_free.ensures c.if-is_free.false c.loop-i.invariant.fewer;
}

pub returns-clause-left : goal.returns-clause-left
returns-clause-left c = (omega arith, held-end c.loop-i.invariant.held (omega arith))
