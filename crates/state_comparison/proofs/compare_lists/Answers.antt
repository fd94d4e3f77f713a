use native.Mathlib.Omega.{arith}
use mathlib.Core.Path.{◌≡◌, ◌∙◌, ap}
use Rattle.std.proofs.Common.{rules}
use Rattle.state_comparison.proofs.Comparing.{entries_told, walk_start, walk-both, walk-found, walk-next, walk_end}
use Rattle.state_comparison.proofs.compare_lists.Goals as goal

pub loop-i-init : goal.loop-i-init
loop-i-init g c =
    let r = c.requires.1.1.1.1.1.1 in
    let e = c.enter-counts.ensures in
    walk_start g.lists.list.least g.lists.list.rule r.0 e.counts.0 e.counts.1 e.places.0 e.places.1

pub loop-i-preserved : goal.loop-i-preserved
loop-i-preserved g c =
    let w = c.loop-i.invariant in
    let f = c.compare_part.ensures in
    let o = entries_told c.requires.1.1.1.1.1.1.1 (walk-both w (omega arith)) f.snapshot f.target c.at_entry.ensures f.verdict in
    walk-next w (omega arith) o.found c.in_ok-compare_part.was o.end o.end'

pub returns-in_err-compare_part-clause-verdict : goal.returns-in_err-compare_part-clause-verdict
returns-in_err-compare_part-clause-verdict g c =
    let h : c.from_residual.result ≡ c.compare_part.result = search rules in
    let w = c.loop-i.invariant in
    let f = c.compare_part.ensures in
    let o = entries_told c.requires.1.1.1.1.1.1.1 (walk-both w (omega arith)) f.snapshot f.target c.at_entry.ensures f.verdict in
    h ∙ c.in_err-compare_part.was ∙ walk-found w (omega arith) o.found c.in_err-compare_part.was

pub returns-clause-verdict : goal.returns-clause-verdict
returns-clause-verdict g c =
    let r = c.requires.1.1.1.1.1.1.1 in
    let d : c.at_count.result ≡ g.lists.of_count c.loop-i.i = r.count-so c.at_count.ensures ∙ ap g.lists.of_count (omega arith) in
    walk_end c.loop-i.invariant (omega (arith, c.loop-i.invariant.reached)) (c.compare_counts.ensures ∙ rw d)
