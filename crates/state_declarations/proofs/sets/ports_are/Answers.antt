use Rattle.format.specs.Manifest.{connectors}
use Rattle.state_declarations.proofs.Meeting.{cleared}
use Rattle.state_declarations.proofs.sets.ports_are.Goals as goal

pub returns : goal.returns
returns c = c.all_met.ensures _ _ _ c.mark_each-met.ensures (cleared connectors _ _ _ c.requires (c.fill.ensures.after (λ y h. h)))
