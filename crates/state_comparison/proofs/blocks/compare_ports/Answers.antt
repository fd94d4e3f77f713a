use mathlib.Core.Path.{◌∙◌}
use Rattle.format.specs.Manifest.{connector_keys}
use Rattle.format.specs.Places.{past}
use Rattle.state_comparison.proofs.Comparing.{both_first, both-next}
use Rattle.state_comparison.proofs.blocks.compare_ports.Goals as goal

pub compare_port_bindings-requires-clause-both : goal.compare_port_bindings-requires-clause-both
unfolding connector_keys
compare_port_bindings-requires-clause-both c = both_first connector_keys connector_keys c.requires

pub compare_port_bindings-requires-2-clause-both : goal.compare_port_bindings-requires-2-clause-both
unfolding connector_keys
compare_port_bindings-requires-2-clause-both c =
    let m = c.compare_port_bindings.ensures.moved c.in_ok-compare_port_bindings.was in
    both-next connector_keys connector_keys c.requires m.snapshot m.target

pub returns-clause-moved : goal.returns-clause-moved
unfolding past
returns-clause-moved c = λ o.
    let m = c.compare_port_bindings.ensures.moved c.in_ok-compare_port_bindings.was in
    let n = c.compare_port_bindings-2.ensures.moved o in
    record { snapshot = n.snapshot ∙ rw m.snapshot; target = n.target ∙ rw m.target }
