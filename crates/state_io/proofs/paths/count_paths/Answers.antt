use native.Mathlib.Omega.{arith}
use mathlib.Core.Path.{refl, sym, ◌∙◌}
use Rattle.state_io.proofs.Words.{counted-first, counted-all, counted-more, counted-stop}
use Rattle.state_io.proofs.paths.count_paths.Goals as goal

pub loop-pair-init : goal.loop-pair-init
loop-pair-init c =
    rw (c.into_iter-pair-iterator.ensures.into_iter_gives, c.windows-pair-items.ensures.size, c.windows-pair-items.ensures.rest, c.min-count.ensures)
    (omega arith, tt, refl, counted-first c.args.s.now c.args.paths.now)

pub returns-in_err-another : goal.returns-in_err-another
returns-in_err-another c =
    let l = c.loop-pair.invariant in
    let m = c.in-Some.ensures.steps.1 in
    c.from_residual.ensures
    ∙ counted-stop _ l.2 c.word_at.ensures c.word_at-in-loop-pair.ensures _ m.0 m.1 l.3 (sym c.another.ensures ∙ c.in_err-another.was)

pub loop-pair-preserved : goal.loop-pair-preserved
loop-pair-preserved c =
    let l = c.loop-pair.invariant in
    let m = c.in-Some.ensures.steps in
    rw (m.0, l.2) (
      omega arith,
      tt,
      refl,
      counted-more _ l.2 c.word_at.ensures c.word_at-in-loop-pair.ensures _ m.1.0 m.1.1 m.1.2 l.3 (sym c.another.ensures ∙ c.in_ok-another.was) c.from.ensures,
    )

pub returns : goal.returns
returns c = let l = c.loop-pair.invariant in counted-all _ _ l.2 c.in-None.ensures.steps.1.0 l.3
