use lib.ListN.{length}
use Rattle.format.specs.Manifest.{enums}
use Rattle.state_layout.specs.Keys.{keys_of}
use Rattle.state_declarations.specs.Each.{classes_named, type_named}
use Rattle.state_declarations.proofs.sets.mark_classes.Given as goal

abbrev pub ghost-mark_each : goal.ghost-mark_each
ghost-mark_each a = record { count = length a.keys.words.now; listed = keys_of enums a.keys.s.now a.keys.words.now; names = classes_named a.keys.s.now }

abbrev pub ghost-mark_each-2 : goal.ghost-mark_each-2
ghost-mark_each-2 a = record { count = length a.keys.words.now; listed = keys_of enums a.keys.s.now a.keys.words.now; names = type_named a.keys.s.now }
