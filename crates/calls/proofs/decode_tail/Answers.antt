use Rattle.calls.proofs.Ending.{accepted-started}
use Rattle.calls.proofs.Tailed.{ends-long, ends-judged, asked, ends-tail, ends-accepted}
use Rattle.calls.proofs.decode_tail.Goals as goal

pub returns-then-too_long : goal.returns-then-too_long
returns-then-too_long c =
    let p = ends-long _ _ _ _ _ c.too_long.ensures c.if-too_long.true (rw c.at.ensures at c.refused.ensures.value) (rw c.at.ensures at c.refused.ensures.index_after) in record { value = p.0; index_after = p.1 }

pub returns-in-Err : goal.returns-in-Err
returns-in-Err c =
    let p = ends-judged _ _ _ _ _ c.too_long.ensures c.if-too_long.false c.judge.ensures c.in-Err.is c.refused-in-Err.ensures.value c.refused-in-Err.ensures.index_after in record { value = p.0; index_after = p.1 }

pub read_tail-requires : goal.read_tail-requires
read_tail-requires c =
    record { asked = asked c.judge.ensures c.in_default.is }

pub accepted-requires : goal.accepted-requires
accepted-requires c =
    (accepted-started c.judge.ensures c.in_default.is).long

pub returns-in-Ok : goal.returns-in-Ok
returns-in-Ok c =
    let p = ends-accepted _ _ _ _ _ c.too_long.ensures c.if-too_long.false c.judge.ensures c.in_default.is
    c.read_tail.ensures c.in-Ok.is c.accepted.ensures.value c.accepted.ensures.index_after in record { value = p.0; index_after = p.1 }

pub returns-in-Err-read_tail : goal.returns-in-Err-read_tail
returns-in-Err-read_tail c =
    let p = ends-tail _ _ _ _ _ c.too_long.ensures c.if-too_long.false c.judge.ensures c.in_default.is
    c.read_tail.ensures c.in-Err-read_tail.is c.offset.ensures c.refused-in-Err-read_tail.ensures.value c.refused-in-Err-read_tail.ensures.index_after in record { value = p.0; index_after = p.1 }
