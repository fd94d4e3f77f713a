use Rattle.std.proofs.Common.{rules}
use Rattle.state_slots.proofs.Whole.{cover-held}
use Rattle.state_slots.proofs.validate_slots.Goals as goal

pub slots_cover-requires-clause-all : goal.slots_cover-requires-clause-all
slots_cover-requires-clause-all c =
    cover-held (search rules) c.table-blocks.ensures c.table-slots.ensures c.for_pairs.ensures c.in_ok-for_pairs.was c.for_pairs-2.ensures c.in_ok-for_pairs-2.was c.requires.declared
