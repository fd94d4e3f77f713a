use Rattle.format.specs.Manifest.{enums, connectors, input_definitions}
use Rattle.state_comparison.specs.Comparing.{section_lists}
use Rattle.state_comparison.proofs.compare_section.Given as goal

abbrev pub ghost-compare_lists : goal.ghost-compare_lists
ghost-compare_lists a = section_lists a.at_entry.0.now enums

abbrev pub ghost-compare_lists-2 : goal.ghost-compare_lists-2
ghost-compare_lists-2 a = section_lists a.at_entry.0.now connectors

abbrev pub ghost-compare_lists-3 : goal.ghost-compare_lists-3
ghost-compare_lists-3 a = section_lists a.at_entry.0.now input_definitions
