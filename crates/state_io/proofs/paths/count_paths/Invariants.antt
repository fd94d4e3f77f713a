use mathlib.Core.Path.{◌≡◌}
use Rattle.std.specs.Slice.Iter.{windows_size, windows_rest}
use Rattle.state_io.proofs.Words.{Counted}
use Rattle.state_io.proofs.paths.count_paths.Given as goal

abbrev pub invariant-loop-pair : goal.invariant-loop-pair
invariant-loop-pair l =
    (goal.iterator-loop-pair).can_next l.pair-iterator
    × (goal.iterator-loop-pair).is_finite l.pair-iterator
    × (windows_size l.pair-iterator ≡ 2) × Counted l.s l.paths (windows_rest l.pair-iterator) l.count
