use Rattle.format.specs.Manifest.{numbered}
use Rattle.state_declarations.proofs.Meeting.{each_one}
use Rattle.state_declarations.proofs.sets.mark_key.Goals as goal

pub returns : goal.returns
unfolding numbered
returns c = rw (← c.part.ensures) (each_one _ _ _ _ c.mark.ensures c.in_ok-i.was _)
