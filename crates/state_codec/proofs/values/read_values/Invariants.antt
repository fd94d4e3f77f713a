use Rattle.tail.specs.Tail.{values}
use Rattle.state_codec.proofs.values.read_values.Given as goal

abbrev pub ghost-read_ascending : goal.ghost-read_ascending
ghost-read_ascending a = values
