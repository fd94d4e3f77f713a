use mathlib.Core.Path.{◌∙◌, refl}
use Rattle.std.proofs.Common.{rules}
use Rattle.format.specs.Manifest.{block_head}
use Rattle.format.specs.Places.{past}
use Rattle.state_comparison.proofs.Comparing.{or-next, or-found}
use Rattle.state_comparison.proofs.Fields.{heads-are}
use Rattle.state_comparison.proofs.blocks.compare_head.Goals as goal

pub returns-in_err-compare_part-clause-verdict : goal.returns-in_err-compare_part-clause-verdict
returns-in_err-compare_part-clause-verdict c =
    let e = c.compare_part.ensures in
    rw (heads-are _ _ c.args.i c.requires e.snapshot e.target refl refl refl refl refl refl refl refl) (search (rules, or-found))

pub returns-in_err-compare_part-2-clause-verdict : goal.returns-in_err-compare_part-2-clause-verdict
returns-in_err-compare_part-2-clause-verdict c =
    let e = c.compare_part.ensures in
    let f = c.compare_part-2.ensures in
    rw (heads-are _ _ c.args.i c.requires e.snapshot e.target f.snapshot f.target refl refl refl refl refl refl) (search (rules, or-found, or-next))

pub returns-in_err-compare_part-3-clause-verdict : goal.returns-in_err-compare_part-3-clause-verdict
returns-in_err-compare_part-3-clause-verdict c =
    let e = c.compare_part.ensures in
    let f = c.compare_part-2.ensures in
    let g = c.compare_part-3.ensures in
    rw (heads-are _ _ c.args.i c.requires e.snapshot e.target f.snapshot f.target g.snapshot g.target refl refl refl refl)
    (search (rules, or-found, or-next) depth 8)

pub returns-in_err-compare_part-4-clause-verdict : goal.returns-in_err-compare_part-4-clause-verdict
returns-in_err-compare_part-4-clause-verdict c =
    let e = c.compare_part.ensures in
    let f = c.compare_part-2.ensures in
    let g = c.compare_part-3.ensures in
    let h = c.compare_part-4.ensures in
    rw (heads-are _ _ c.args.i c.requires e.snapshot e.target f.snapshot f.target g.snapshot g.target h.snapshot h.target refl refl)
    (search (rules, or-found, or-next) depth 9)

pub returns-clause-verdict : goal.returns-clause-verdict
returns-clause-verdict c =
    let e = c.compare_part.ensures in
    let f = c.compare_part-2.ensures in
    let g = c.compare_part-3.ensures in
    let h = c.compare_part-4.ensures in
    let j = c.compare_part-5.ensures in
    rw (heads-are _ _ c.args.i c.requires e.snapshot e.target f.snapshot f.target g.snapshot g.target h.snapshot h.target j.snapshot j.target)
    (or-next (rw c.in_block.ensures at e.verdict) c.in_ok-compare_part.was
    (or-next (rw c.in_block-2.ensures at f.verdict) c.in_ok-compare_part-2.was
    (or-next (rw c.in_block-3.ensures at g.verdict) c.in_ok-compare_part-3.was
    (or-next (rw c.in_block-4.ensures at h.verdict) c.in_ok-compare_part-4.was (rw c.in_block-5.ensures at j.verdict)))))

pub returns-clause-moved : goal.returns-clause-moved
unfolding block_head past
returns-clause-moved c = λ o.
    let e = c.compare_part.ensures in
    let f = c.compare_part-2.ensures in
    let g = c.compare_part-3.ensures in
    let h = c.compare_part-4.ensures in
    let j = c.compare_part-5.ensures in
    record { snapshot = j.snapshot ∙ rw (h.snapshot, g.snapshot, f.snapshot, e.snapshot); target = j.target ∙ rw (h.target, g.target, f.target, e.target) }
