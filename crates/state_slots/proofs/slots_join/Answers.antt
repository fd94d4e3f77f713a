use mathlib.Core.Path.{◌∙◌}
use Rattle.std.proofs.Common.{rules}
use Rattle.state_slots.proofs.Offsets.{joins}
use Rattle.state_slots.proofs.slots_join.Goals as goal

pub returns : goal.returns
returns c = c.is_some.ensures ∙ joins c.args.s.now _ _ _ (λ n x v q k. search rules) _ _ c.args.offsets.now c.try_fold.result c.try_fold.ensures.ran c.iter.ensures.rest c.requires
