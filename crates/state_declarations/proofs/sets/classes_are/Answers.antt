use Rattle.format.specs.Manifest.{enums}
use Rattle.state_declarations.proofs.Meeting.{cleared}
use Rattle.state_declarations.proofs.sets.classes_are.Goals as goal

pub returns : goal.returns
returns c = c.all_met.ensures _ _ _ c.mark_classes-met.ensures (cleared enums _ _ _ c.requires (c.fill.ensures.after (λ y h. h)))
