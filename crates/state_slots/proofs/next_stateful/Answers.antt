use Rattle.std.proofs.Common.{rules}
use Rattle.state_slots.proofs.Walks.{next_found}
use Rattle.state_slots.proofs.next_stateful.Goals as goal

pub returns : goal.returns
returns c = next_found c.args.s.now _ (λ x q k. search rules) (λ x q k. search rules) _ _ c.find.result c.find.ensures.ran
