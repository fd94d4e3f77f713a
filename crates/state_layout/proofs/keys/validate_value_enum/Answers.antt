use Rattle.state_layout.proofs.keys.validate_value_enum.Goals as goal

pub word_at-requires : goal.word_at-requires
word_at-requires c = (c.find.ensures.at _ c.in-Some.is).0
