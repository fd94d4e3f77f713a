use Rattle.std.proofs.Common.{rules, ◌≡◌, true, false}
use Rattle.std.proofs.lemmas.Iterator.{cases_from_all, YieldsList-from_slice}
use borrow.Author.Tests.{tests}
use Rattle.state_layout.specs.Marks.{is_set}
use Rattle.state_layout.proofs.Every.{every}
use Rattle.state_layout.proofs.Marked.{set-where, unset-where}
use Rattle.state_layout.proofs.keys.all_marked.Goals as goal

pub returns : goal.returns
returns c =
    every is_set c.all.result c.args.marks.now
    (cases_from_all _ _ c.all.result (λ m. is_set m ≡ true) (λ m. is_set m ≡ false) c.all.ensures.ran (YieldsList-from_slice _ c.iter.ensures.rest) (λ x q k. search (rules, tests, set-where, unset-where)) (λ x q k. search (rules, tests, set-where, unset-where)))
