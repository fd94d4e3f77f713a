use mathlib.Core.Path.{◌∙◌}
use Rattle.std.proofs.Common.{rules, ◌≡◌, true, false}
use Rattle.std.proofs.lemmas.Iterator.{cases_from_all, YieldsList-from_slice}
use borrow.Author.Tests.{tests}
use Rattle.state_layout.proofs.Every.{every}
use Rattle.state_references.specs.Known.{of_way}
use Rattle.state_references.proofs.inputs_directed.Goals as goal

pub returns : goal.returns
returns c =
    let t = of_way c.args.m.s.now 0 in
    every t c.all.result c.table.result.now
    (cases_from_all _ _ c.all.result (λ w. t w ≡ true) (λ w. t w ≡ false) c.all.ensures.ran (YieldsList-from_slice _ c.iter.ensures.rest) (λ x q k. search (rules, tests)) (λ x q k. search (rules, tests)))
    ∙ rw c.table.ensures
