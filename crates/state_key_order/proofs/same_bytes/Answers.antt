use Rattle.format.proofs.Lists.{same-told}
use Rattle.state_key_order.proofs.same_bytes.Goals as goal

pub returns : goal.returns
returns c = same-told _ _ _ c.same.ensures
