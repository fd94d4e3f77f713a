use native.Mathlib.Omega.{arith}
use mathlib.Core.Path.{◌≡◌, ◌∙◌, refl}
use Prim.Native.Nat.{◌<◌, min}
use Rattle.format.specs.Format.{plain, late}
use Rattle.format.specs.Manifest.{params}
use Rattle.state_comparison.proofs.Comparing.{or-next, or-found, walk-here, walk_start, walk-both, walk-found, walk-next, walk_end}
use Rattle.state_comparison.proofs.Fields.{params-both, params-found, block-is, ports_left}
use Rattle.state_comparison.proofs.blocks.compare_blocks.Goals as goal

pub blocks-2-init : goal.blocks-2-init
blocks-2-init c =
    let e = c.enter-counts.ensures in
    walk_start _ _ c.requires e.counts.0 e.counts.1 e.places.0 e.places.1

pub loop-j-init : goal.loop-j-init
unfolding params
loop-j-init c =
    let b = walk-both c.blocks-2.invariant (omega (arith, c.blocks-2.invariant.reached)) in
    let m = c.compare_head.ensures.moved c.in_default.is in
    let e = c.enter-parameters.ensures in
    walk-here 6 (late plain) (params-both _ _ _ _ m.snapshot m.target b) e.counts.0 e.counts.1 e.places.0 e.places.1

pub loop-j-preserved : goal.loop-j-preserved
loop-j-preserved c =
    let m = c.compare_parameter.ensures.moved c.in_default-compare_parameter.is in
    walk-next c.loop-j.invariant (omega arith) c.compare_parameter.ensures.verdict c.in_default-compare_parameter.is m.snapshot m.target

pub compare_ports-requires : goal.compare_ports-requires
compare_ports-requires c =
    let w = c.blocks-2.invariant in
    let m = c.compare_head.ensures.moved c.in_default.is in
    let e = c.enter-parameters.ensures in
    let j : c.shorter-place.result ≡ c.loop-j.j = omega arith in
    let x = rw (c.in_block-count.ensures, j) at c.compare_counts-in-blocks-2.ensures in
    let l = ports_left _ _ _ _ m.snapshot m.target _ e.counts.0 e.counts.1 e.places.0 e.places.1 (walk-both w (omega (arith, w.reached))) c.compare_head.ensures.verdict c.in_default.is c.loop-j.invariant (omega arith) x c.in_default-compare_counts.is in
    l.both

pub blocks-2-preserved : goal.blocks-2-preserved
blocks-2-preserved c =
    let w = c.blocks-2.invariant in
    let m = c.compare_head.ensures.moved c.in_default.is in
    let e = c.enter-parameters.ensures in
    let j : c.shorter-place.result ≡ c.loop-j.j = omega arith in
    let x = rw (c.in_block-count.ensures, j) at c.compare_counts-in-blocks-2.ensures in
    let l = ports_left _ _ _ _ m.snapshot m.target _ e.counts.0 e.counts.1 e.places.0 e.places.1 (walk-both w (omega (arith, w.reached))) c.compare_head.ensures.verdict c.in_default.is c.loop-j.invariant (omega arith) x c.in_default-compare_counts.is in
    let r = c.compare_ports.ensures.moved c.in_default-compare_ports.is in
    let z = l.ends r.snapshot r.target in
    walk-next w (omega (arith, w.reached)) (l.found c.compare_ports.ensures.verdict) c.in_default-compare_ports.is z.0 z.1

pub returns-then-i-shorter : goal.returns-then-i-shorter
returns-then-i-shorter c = walk_end c.blocks-2.invariant (omega arith) (rw c.in_block.ensures at c.compare_counts.ensures)

pub returns-in-Err : goal.returns-in-Err
returns-in-Err c =
    let w = c.blocks-2.invariant in
    walk-found w (omega (arith, w.reached)) (c.in-Err.is ∙ or-found _ c.compare_head.ensures.verdict c.in-Err.is ∙ block-is _ _ _ _ refl refl refl refl _) c.in-Err.is

pub returns-in-Err-compare_parameter : goal.returns-in-Err-compare_parameter
returns-in-Err-compare_parameter c =
    let w = c.blocks-2.invariant in
    let m = c.compare_head.ensures.moved c.in_default.is in
    let e = c.enter-parameters.ensures in
    let f = walk-found c.loop-j.invariant (omega arith) c.compare_parameter.ensures.verdict c.in-Err-compare_parameter.is in
    let v = params-found _ _ _ _ m.snapshot m.target e.counts.0 e.counts.1 e.places.0 e.places.1 _ f in
    walk-found w (omega (arith, w.reached)) (or-next c.compare_head.ensures.verdict c.in_default.is (or-found _ v refl) ∙ block-is _ _ _ _ m.snapshot m.target refl refl _) refl

pub returns-in-Err-compare_counts : goal.returns-in-Err-compare_counts
returns-in-Err-compare_counts c =
    let w = c.blocks-2.invariant in
    let m = c.compare_head.ensures.moved c.in_default.is in
    let e = c.enter-parameters.ensures in
    let j : c.shorter-place.result ≡ c.loop-j.j = omega arith in
    let x = rw (c.in_block-count.ensures, j) at c.compare_counts-in-blocks-2.ensures in
    let v = params-found _ _ _ _ m.snapshot m.target e.counts.0 e.counts.1 e.places.0 e.places.1 _ (walk_end c.loop-j.invariant (omega arith) x) in
    walk-found w (omega (arith, w.reached)) (or-next c.compare_head.ensures.verdict c.in_default.is (or-found _ v c.in-Err-compare_counts.is) ∙ block-is _ _ _ _ m.snapshot m.target refl refl _) refl

pub returns-in-Err-compare_ports : goal.returns-in-Err-compare_ports
returns-in-Err-compare_ports c =
    let w = c.blocks-2.invariant in
    let m = c.compare_head.ensures.moved c.in_default.is in
    let e = c.enter-parameters.ensures in
    let j : c.shorter-place.result ≡ c.loop-j.j = omega arith in
    let x = rw (c.in_block-count.ensures, j) at c.compare_counts-in-blocks-2.ensures in
    let l = ports_left _ _ _ _ m.snapshot m.target _ e.counts.0 e.counts.1 e.places.0 e.places.1 (walk-both w (omega (arith, w.reached))) c.compare_head.ensures.verdict c.in_default.is c.loop-j.invariant (omega arith) x c.in_default-compare_counts.is in
    walk-found w (omega (arith, w.reached)) (l.found c.compare_ports.ensures.verdict) c.in-Err-compare_ports.is
