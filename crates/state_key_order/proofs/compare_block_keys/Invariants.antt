use Rattle.format.specs.Keys.{block_key}
use Rattle.state_key_order.proofs.compare_block_keys.Given as goal

abbrev pub ghost-compare_keys : goal.ghost-compare_keys
ghost-compare_keys a = block_key
