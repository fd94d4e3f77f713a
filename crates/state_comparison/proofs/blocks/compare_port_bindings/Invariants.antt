use Rattle.state_comparison.specs.Comparing.{ports}
use Rattle.state_comparison.proofs.blocks.compare_port_bindings.Given as goal

abbrev pub ghost-compare_lists : goal.ghost-compare_lists
ghost-compare_lists a = record {
  list = ports;
  of_entry = λ j. record { section = 3; part = a.at_entry.0.now; entry = a.at_entry.1.now; inner = j };
  of_count = λ j. record { section = 3; part = a.at_count.0.now; entry = a.at_count.1.now; inner = j };
}
