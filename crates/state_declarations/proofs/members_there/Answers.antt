use mathlib.Core.Path.{◌≡◌, ◌∙◌}
use mathlib.Core.Bool.{true, false}
use Rattle.std.proofs.Common.{rules}
use Rattle.std.proofs.lemmas.Iterator.{cases_from_all, YieldsList-from_slice}
use borrow.Author.Tests.{tests}
use Rattle.state_layout.proofs.Every.{every}
use Rattle.state_declarations.proofs.Parts.{has_member_at, members_none, members_some, members-map}
use Rattle.state_declarations.proofs.members_there.Goals as goal

pub returns : goal.returns
returns c =
    let t = has_member_at c.args.s.now in
    every t c.all.result c.args.classes.now
    (cases_from_all _ _ c.all.result (λ q. t q ≡ true) (λ q. t q ≡ false) c.all.ensures.ran (YieldsList-from_slice _ c.iter.ensures.rest) (λ x q k. search (rules, tests, members_none, members_some)) (λ x q k. search (rules, tests, members_none, members_some)))
    ∙ members-map c.args.s.now c.args.classes.now
