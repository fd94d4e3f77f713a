use native.Mathlib.Omega.{arith}
use Rattle.state_index.proofs.Sections.{key-text, key-pair, key-block, key-connector, key-past, pair-past}
use Rattle.state_index.proofs.key_end.Goals as goal

pub returns-in-5 : goal.returns-in-5
returns-in-5 c = key-past _ _ _ (key-pair (grind arith)) (pair-past c.args.section _ _ c.connector_key_end.ensures c.connector_key_end-in-5.ensures)

pub returns-in-3 : goal.returns-in-3
returns-in-3 c = key-past _ _ _ (key-block (grind arith)) c.block_key_end.ensures

pub returns-in-4 : goal.returns-in-4
returns-in-4 c = key-past _ _ _ (key-connector (grind arith)) c.connector_key_end-in-4.ensures

pub returns-in_default : goal.returns-in_default
returns-in_default c = key-past _ _ _ (key-text (grind arith)) c.text_end.ensures
