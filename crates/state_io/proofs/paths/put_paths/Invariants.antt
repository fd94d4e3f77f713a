use Rattle.std.specs.Slice.Iter.{iter_rest}
use Rattle.std.specs.Iterator.Adapters.{zip_first, zip_second}
use Rattle.state_io.proofs.Gathered.{Putting}
use Rattle.state_io.proofs.paths.put_paths.Given as goal

abbrev pub invariant-loop-connector : goal.invariant-loop-connector
invariant-loop-connector l =
    (goal.iterator-loop-connector).can_next l.connector-iterator
    × (goal.iterator-loop-connector).is_finite l.connector-iterator
    × Putting l.connectors.s.now l.fn.marks l.connectors.words.now (iter_rest (zip_first l.connector-iterator)) (iter_rest (zip_second l.connector-iterator)) l.paths l.count
