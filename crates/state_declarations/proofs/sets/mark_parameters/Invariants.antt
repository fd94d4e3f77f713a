use lib.ListN.{length}
use Rattle.format.specs.Format.{text, ◌then◌}
use Rattle.format.specs.Manifest.{value, enums}
use Rattle.format.specs.Places.{past}
use Rattle.state_layout.specs.Keys.{keys_of}
use Rattle.state_declarations.specs.Each.{class_at}
use Rattle.state_declarations.proofs.sets.mark_parameters.Given as goal

abbrev pub ghost-mark_list : goal.ghost-mark_list
ghost-mark_list a = record { entry = text then value; count = length a.keys.words.now; listed = keys_of enums a.keys.s.now a.keys.words.now; names = λ start end. class_at a.keys.s.now (past text a.keys.s.now start) }
