use lib.ListN.{length}
use Rattle.format.specs.Manifest.{connectors}
use Rattle.state_layout.specs.Keys.{keys_of}
use Rattle.state_declarations.specs.Each.{ports_named}
use Rattle.state_declarations.proofs.sets.ports_are.Given as goal

abbrev pub ghost-mark_each : goal.ghost-mark_each
ghost-mark_each a = record { count = length a.keys.words.now; listed = keys_of connectors a.keys.s.now a.keys.words.now; names = ports_named a.keys.s.now }
