use Rattle.state_io.proofs.Gathered.{marks_enough}
use Rattle.state_io.proofs.paths.external_paths.Goals as goal

pub merge_sort-requires : goal.merge_sort-requires
merge_sort-requires c = marks_enough _ _ _ c.put_paths-count.ensures.paths
