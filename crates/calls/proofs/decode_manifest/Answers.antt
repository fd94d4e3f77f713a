use Rattle.calls.proofs.Ending.{accepted-started, ends-accepted, ends-refused}
use Rattle.calls.proofs.decode_manifest.Goals as goal

pub accepted-requires : goal.accepted-requires
accepted-requires c = (accepted-started c.judge.ensures c.in-Ok.is).long

pub returns-in-Ok : goal.returns-in-Ok
returns-in-Ok c = let p = ends-accepted c.judge.ensures _ c.in-Ok.is c.accepted.ensures.value c.accepted.ensures.index_after in record { value = p.0; index_after = p.1 }

pub returns-in-Err : goal.returns-in-Err
returns-in-Err c = let p = ends-refused c.judge.ensures _ c.in-Err.is c.refused.ensures.value c.refused.ensures.index_after in record { value = p.0; index_after = p.1 }
