use Rattle.format.specs.Keys.{connector_key}
use Rattle.state_key_order.proofs.compare_connector_keys.Given as goal

abbrev pub ghost-compare_keys : goal.ghost-compare_keys
ghost-compare_keys a = connector_key
