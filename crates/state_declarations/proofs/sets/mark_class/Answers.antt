use Rattle.format.specs.Manifest.{numbered, enums}
use Rattle.state_declarations.proofs.Meeting.{class_none, class_one}
use Rattle.state_declarations.proofs.sets.mark_class.Goals as goal

pub returns-then-byte_at-ne-ENUM : goal.returns-then-byte_at-ne-ENUM
returns-then-byte_at-ne-ENUM c = class_none _ _ c.byte_at.ensures c.if-byte_at-ne-ENUM.true _ _ _

pub returns : goal.returns
unfolding numbered
returns c = class_one _ _ c.byte_at.ensures c.if-byte_at-ne-ENUM.false c.ahead.ensures c.text_part-path.ensures enums _ _ c.mark.ensures
