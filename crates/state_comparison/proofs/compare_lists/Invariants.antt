use Rattle.std.specs.Prelude.{Err}
use Rattle.format.specs.Manifest.{entry, counted}
use Rattle.format.specs.Places.{past}
use Rattle.format.specs.Values.{value_at}
use Rattle.verdict.specs.Verdict.{field}
use Rattle.state_comparison.specs.Comparing.{lists_verdict}
use Rattle.state_comparison.proofs.Comparing.{Walking}
use Rattle.state_comparison.proofs.compare_lists.Given as goal

abbrev pub invariant-loop-i : goal.invariant-loop-i
invariant-loop-i g l =
    let f = counted g.lists.list in
    let a = l.fn.at in
    Walking g.lists.list.key g.lists.list.rest (λ i. field (entry g.lists.list) (Err (g.lists.of_entry i))) (λ i. Err (g.lists.of_count i)) l.s l.t
    (lists_verdict g.lists (value_at f l.s a.snapshot) (value_at f l.t a.target)) (past f l.s a.snapshot) (past f l.t a.target)
    l.counts.snapshot l.counts.target l.at.snapshot l.at.target l.i
