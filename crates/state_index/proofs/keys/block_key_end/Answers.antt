use native.Mathlib.Omega.{arith}
use Rattle.state_index.proofs.Sections.{block-authored, block-through, block-other}
use Rattle.state_index.proofs.keys.block_key_end.Goals as goal

pub returns-in-0 : goal.returns-in-0
returns-in-0 c = block-authored _ _ c.byte_at.ensures c.ahead-first.ensures c.in-0.is c.text_end.ensures

pub returns-in-1 : goal.returns-in-1
returns-in-1 c = block-through _ _ c.byte_at.ensures c.ahead-first.ensures c.in-1.is c.text_end-in-1.ensures c.text_end-in-1-2.ensures

pub returns-in_default : goal.returns-in_default
returns-in_default c = block-other _ _ c.byte_at.ensures c.ahead-first.ensures (λ e. omega arith) (λ e. omega arith)
