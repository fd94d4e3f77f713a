use Rattle.state_wire.specs.Fields.{max_snapshot_bytes}
use Rattle.state_manifest_codec.proofs.Sections.{Reading}
use Rattle.state_manifest_codec.proofs.read_sections.Given as goal

abbrev pub invariant-loop-section : goal.invariant-loop-section
invariant-loop-section l = Reading max_snapshot_bytes l.s l.initial.index l.section l.at l.word l.index
