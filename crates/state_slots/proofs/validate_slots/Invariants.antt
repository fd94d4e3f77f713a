use Rattle.state_slots.specs.Walk.{key_asked, words_asked}
use Rattle.state_slots.proofs.validate_slots.Given as goal

abbrev pub ghost-for_pairs : goal.ghost-for_pairs
ghost-for_pairs a = key_asked a.s.now

abbrev pub ghost-for_pairs-2 : goal.ghost-for_pairs-2
ghost-for_pairs-2 a = words_asked a.s.now
