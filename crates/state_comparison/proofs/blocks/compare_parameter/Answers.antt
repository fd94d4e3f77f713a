use mathlib.Core.Path.{◌∙◌, refl}
use Rattle.std.proofs.Common.{rules}
use Rattle.format.specs.Places.{past}
use Rattle.state_comparison.proofs.Comparing.{or-next, or-found}
use Rattle.state_comparison.proofs.Fields.{param_is}
use Rattle.state_comparison.proofs.blocks.compare_parameter.Goals as goal

pub returns-in_err-compare_part-clause-verdict : goal.returns-in_err-compare_part-clause-verdict
returns-in_err-compare_part-clause-verdict c =
    let e = c.compare_part.ensures in
    rw (param_is _ _ c.args.i c.args.j c.requires e.snapshot e.target refl refl) (search (rules, or-found))

pub returns-clause-verdict : goal.returns-clause-verdict
returns-clause-verdict c =
    let e = c.compare_part.ensures in
    let f = c.compare_part-2.ensures in
    rw (param_is _ _ c.args.i c.args.j c.requires e.snapshot e.target f.snapshot f.target)
    (or-next (rw c.in_block.ensures at e.verdict) c.in_ok-compare_part.was (rw c.in_block-2.ensures at f.verdict))

pub returns-clause-moved : goal.returns-clause-moved
unfolding past
returns-clause-moved c = λ o.
    let e = c.compare_part.ensures in
    let f = c.compare_part-2.ensures in
    record { snapshot = f.snapshot ∙ rw e.snapshot; target = f.target ∙ rw e.target }
