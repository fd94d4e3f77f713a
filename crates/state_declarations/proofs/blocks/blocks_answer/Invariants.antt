use Rattle.state_declarations.proofs.Holds.{BlocksLeft}
use Rattle.state_declarations.proofs.blocks.blocks_answer.Given as goal

abbrev pub invariant-loop-word : goal.invariant-loop-word
invariant-loop-word l = BlocksLeft l.classes.s.now l.classes.words.now l.blocks l.word-index
