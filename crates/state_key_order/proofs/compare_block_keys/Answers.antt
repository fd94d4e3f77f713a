use Rattle.state_key_order.proofs.Compare.{block-keys}
use mathlib.Core.Path.{◌∙◌}
use Rattle.state_key_order.proofs.compare_block_keys.Goals as goal

pub returns : goal.returns
returns c = c.compare_keys.ensures ∙ block-keys _ _ _ _ (λ i. (c.type_inv.left i).fits) (λ i. (c.type_inv.right i).fits)
