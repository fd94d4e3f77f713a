use native.Mathlib.Omega.{arith}
use Prim.Native.Nat.{ℕ}
use mathlib.Core.Path.{sym, ap, ◌∙◌}
use mathlib.Core.List.{List, map}
use lib.Seq.{take-append-le}
use Rattle.format.specs.Lists.{all_different}
use Rattle.state_index.specs.Keys.{text_at}
use Rattle.state_index.proofs.Texts.{texts-sorted, none-different}
use Rattle.state_index.proofs.sift.different.Goals as goal

pub returns-then-left-eq0 : goal.returns-then-left-eq0
returns-then-left-eq0 c =
    none-different _ _ c.if-left-eq0.true
    ∙ sym c.in-Some.ensures.left.1
    ∙ ap (λ (l : List ℕ). all_different (map (text_at c.args.s.now) l)) c.split_at_mut-positions.ensures.front

pub returns : goal.returns
returns c =
    let different = λ (l : List ℕ). all_different (map (text_at c.args.s.now) l) in
    let all = c.in-Some.ensures.left in
    let some = c.in-Some-sift.ensures.left in
    texts-sorted c.args.s.now _ _ c.split_at_mut-texts.ensures.front c.merge_sort.ensures c.rising.ensures.sorted (omega (arith, some.0, c.sift-2.auto.positions))
    ∙ sym some.1
    ∙ ap different (c.split_at_mut-positions-2.ensures.front ∙ take-append-le _ _ _ (omega (arith, all.0, c.sift.auto.positions)))
    ∙ sym all.1
    ∙ ap different c.split_at_mut-positions.ensures.front
