use mathlib.Core.Path.{◌∙◌}
use Rattle.state_slots.proofs.Offsets.{sorted-ends, sorted-joins}
use Rattle.state_slots.proofs.slots_cover.Goals as goal

pub slots_join-requires : goal.slots_join-requires
slots_join-requires c = sorted-ends c.args.s.now c.args.slots.now c.merge_sort.ensures c.gather_offsets.ensures c.requires.all

pub returns : goal.returns
returns c = c.slots_join.ensures ∙ sorted-joins c.args.s.now c.args.slots.now c.merge_sort.ensures c.gather_offsets.ensures c.requires.all
