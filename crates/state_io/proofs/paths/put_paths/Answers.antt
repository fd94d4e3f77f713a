use native.Mathlib.Omega.{arith}
use Rattle.std.proofs.lemmas.Slice.Zip.{either_empty_from_Zip}
use Rattle.state_io.proofs.Gathered.{path-within, putting-skip, putting-next, putting-end}
use Rattle.state_io.proofs.paths.put_paths.Goals as goal

pub overflow_cast-paths : goal.overflow_cast-paths
overflow_cast-paths c = omega (arith, c.requires.s_len_bound, path-within _ _ c.connector_key_end.ensures)

pub loop-connector-preserved-then-is_marked : goal.loop-connector-preserved-then-is_marked
loop-connector-preserved-then-is_marked c =
    ((tt, tt), tt, putting-next _ _ c.loop-connector.invariant.2 c.in-Some.ensures.steps (λ e. omega arith) (rw c.position.ensures at c.connector_key_end.ensures))

pub loop-connector-preserved : goal.loop-connector-preserved
loop-connector-preserved c = ((tt, tt), tt, putting-skip _ _ c.loop-connector.invariant.2 c.in-Some.ensures.steps (omega arith))

pub returns-clause-paths : goal.returns-clause-paths
returns-clause-paths c = putting-end _ _ (either_empty_from_Zip c.loop-connector.connector-iterator c.next.new.self c.next.result c.in-None.is c.next.ensures.steps) c.loop-connector.invariant.2
