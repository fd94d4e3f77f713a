use Rattle.format.specs.Keys.{connector_key}
use Rattle.state_declarations.specs.Each.{is_port}
use Rattle.state_declarations.proofs.blocks.side_holds.Given as goal

abbrev pub ghost-each_holds : goal.ghost-each_holds
ghost-each_holds a = record { entry = connector_key; test = is_port a.of.s.now a.of.block a.of.way }
