use Rattle.std.proofs.Common.{rules}
use Rattle.text.proofs.Blocks.{clean-more, passed-last}
use Rattle.text.proofs.runs.text_blocks.Goals as goal

pub returns : goal.returns
returns c =
    passed-last c.last_quiet.result c.last_quiet.ensures (clean-more (clean-more c.in_ok-open.ensures.1 c.clean_blocks.ensures) c.clean_end.ensures) (c.quiet.ensures (search rules))
