use Rattle.format.proofs.Steps.{steps}
use Rattle.format.specs.Keys.{connector_key}
use Rattle.state_key_order.proofs.read_connector_key.Goals as goal

pub returns-in_default : goal.returns-in_default
unfolding connector_key
returns-in_default c = search steps

pub returns-in_default-tag : goal.returns-in_default-tag
unfolding connector_key
returns-in_default-tag c = search steps

pub returns : goal.returns
unfolding connector_key
returns c = search steps
