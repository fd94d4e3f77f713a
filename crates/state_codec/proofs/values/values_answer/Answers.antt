use Rattle.state_codec.proofs.Asking.{asking-start, asking-on}
use native.Mathlib.Omega.{arith}
use Rattle.state_codec.proofs.values.values_answer.Goals as goal

pub loop-i-init : goal.loop-i-init
loop-i-init c = asking-start _ _ c.requires.well c.requires.counted c.ahead-p.ensures

pub loop-i-preserved : goal.loop-i-preserved
loop-i-preserved c = asking-on _ _ c.loop-i.invariant (omega arith) c.value_answer.ensures c.in_ok-value_answer.was c.connector_key_end.ensures c.value_end-p.ensures
