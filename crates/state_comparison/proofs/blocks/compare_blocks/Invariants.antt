use Prim.Native.Nat.{◌-◌}
use Rattle.format.specs.Format.{text}
use Rattle.format.specs.Keys.{block_key}
use Rattle.format.specs.Manifest.{value, block_rest, counted, blocks}
use Rattle.format.specs.Places.{skip, past}
use Rattle.format.specs.Values.{value_at}
use Rattle.verdict.specs.Verdict.{differs, in_blocks, along, param_verdict, listwise, block_verdict}
use Rattle.state_comparison.proofs.Comparing.{Walking, entries_at}
use Rattle.state_comparison.proofs.blocks.compare_blocks.Given as goal

abbrev pub invariant-loop-j : goal.invariant-loop-j
invariant-loop-j l =
    let c = param_verdict l.i in
    let d = in_blocks 8 l.i in
    let n = l.parameters.snapshot in
    let m = l.parameters.target in
    let a = l.initial.at in
    Walking text value c d l.s l.t (along c d 0 (entries_at text value c d l.s l.t l.s n a.snapshot) (entries_at text value c d l.s l.t l.t m a.target))
    (skip (past text l.s) (past value l.s) n a.snapshot) (skip (past text l.t) (past value l.t) m a.target)
    n m l.at.snapshot l.at.target l.j

abbrev pub invariant-blocks-2 : goal.invariant-blocks-2
invariant-blocks-2 l =
    let a = l.fn.at in
    Walking block_key block_rest block_verdict (λ i. differs 3 13 i 0) l.s l.t
    ((listwise 3 blocks block_verdict).compare (value_at (counted blocks) l.s a.snapshot) (value_at (counted blocks) l.t a.target)) (past (counted blocks) l.s a.snapshot) (past (counted blocks) l.t a.target)
    l.counts.snapshot l.counts.target l.at.snapshot l.at.target l.i

abbrev pub decreases-blocks-2 : goal.decreases-blocks-2
decreases-blocks-2 l = l.counts.snapshot - l.i
