use lib.ListN.{get_or}
use mathlib.Core.Path.{◌≡◌, refl}
use borrow.Author.Tests.{tests}
use Rattle.std.proofs.Common.{rules}
use Rattle.std.proofs.lemmas.Iterator.{cases_from_all, YieldsList-from_range}
use native.Mathlib.Omega.{arith}
use Rattle.order.proofs.Steps.{same-behind}
use Rattle.order.proofs.same.Goals as goal

pub returns : goal.returns
returns c =
    let a = c.args.a.now in
    let b = c.args.b.now in
    let e = c.same_blocks-at-3.ensures in
    same-behind a b c.same_blocks-at-3.result e.0 (omega arith) e.2 c.all.result
    (cases_from_all _ _ c.all.result (λ j. get_or a j 0 ≡ get_or b j 0) (λ j. get_or a j 0 ≡ get_or b j 0 → ⊥) c.all.ensures.ran (YieldsList-from_range _ _ _ refl refl) (λ x q k. search (rules, tests)) (λ x q k. search (rules, tests)))
