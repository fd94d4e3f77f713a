use Rattle.format.proofs.Steps.{steps}
use Rattle.format.specs.Keys.{block_key}
use Rattle.state_key_order.proofs.read_block_key.Goals as goal

pub returns-in_default : goal.returns-in_default
unfolding block_key
returns-in_default c = search steps

pub returns-then-authored : goal.returns-then-authored
unfolding block_key
returns-then-authored c = search steps

pub returns-in_default-name : goal.returns-in_default-name
unfolding block_key
returns-in_default-name c = search steps

pub returns : goal.returns
unfolding block_key
returns c = search steps
