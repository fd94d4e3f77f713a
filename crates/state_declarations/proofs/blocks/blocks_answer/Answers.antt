use Rattle.state_declarations.proofs.Holds.{blocks-next, blocks-no, blocks-end}
use Rattle.std.proofs.lemmas.Result.{err_from_is_err_and}
use Rattle.state_declarations.proofs.blocks.blocks_answer.Goals as goal

pub returns-in_err-block_answer : goal.returns-in_err-block_answer
returns-in_err-block_answer c =
    let p = err_from_is_err_and c.from_residual.result c.from_residual.ensures.1 in
    rw (p.1, p.2) (blocks-no c.loop-word.invariant c.loop-word-test.true (rw c.position.ensures at c.block_answer.ensures) c.in_err-block_answer.was)

pub loop-word-preserved : goal.loop-word-preserved
loop-word-preserved c = blocks-next c.loop-word.invariant c.loop-word-test.true (rw c.position.ensures at c.block_answer.ensures) c.in_ok-block_answer.was

pub returns : goal.returns
returns c = blocks-end c.loop-word.invariant c.loop-word-test.false
