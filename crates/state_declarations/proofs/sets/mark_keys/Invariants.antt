use lib.ListN.{length}
use mathlib.Core.List.{[], ◌∷◌}
use Rattle.state.specs.Bytes.{span}
use Rattle.format.specs.Keys.{connector_key}
use Rattle.format.specs.Manifest.{connectors}
use Rattle.state_layout.specs.Keys.{keys_of}
use Rattle.state_declarations.proofs.sets.mark_keys.Given as goal

abbrev pub ghost-mark_list : goal.ghost-mark_list
ghost-mark_list a = record { entry = connector_key; count = length a.keys.words.now; listed = keys_of connectors a.keys.s.now a.keys.words.now; names = λ start end. span a.keys.s.now start end ∷ [] }
