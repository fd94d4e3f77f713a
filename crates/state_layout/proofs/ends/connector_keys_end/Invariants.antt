use Rattle.format.specs.Keys.{connector_key}
use Rattle.state_layout.proofs.ends.connector_keys_end.Given as goal

abbrev pub ghost-list_end : goal.ghost-list_end
ghost-list_end a = connector_key
