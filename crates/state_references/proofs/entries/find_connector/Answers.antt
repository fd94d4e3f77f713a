use native.Mathlib.Omega.{arith}
use Rattle.state_references.proofs.entries.find_connector.Goals as goal

pub overflow_add-result : goal.overflow_add-result
overflow_add-result c = omega (arith, c.find.ensures.at _ c.in_ok-i.was)
