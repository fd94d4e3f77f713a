use Rattle.format.specs.Format.{text, ◌then◌}
use Rattle.format.specs.Manifest.{value}
use Rattle.state_layout.specs.Keys.{classes_of}
use Rattle.state_declarations.specs.Each.{has_class}
use Rattle.state_declarations.proofs.blocks.parameters_hold.Given as goal

abbrev pub ghost-each_holds : goal.ghost-each_holds
ghost-each_holds a = record { entry = text then value; test = λ place start. has_class a.of.s.now (classes_of a.of.s.now a.of.words.now) start }
