use Prim.Native.Nat.{◌-◌}
use mathlib.Core.List.{[]}
use lib.ListN.{length}
use Rattle.state_sections.proofs.Filling.{Filling}
use Rattle.state_wire.specs.Fields.{max_snapshot_bytes}
use Rattle.format.specs.Format.{scan_entries, free, text, done, ◌then◌}
use Rattle.format.proofs.Entries.{Going}
use Rattle.state_sections.proofs.tables.read_names.Given as goal

abbrev pub invariant-loop-word : goal.invariant-loop-word
invariant-loop-word l = record {
  going : Going (scan_entries max_snapshot_bytes free text done l.s (length l.initial.names) l.at []) max_snapshot_bytes free text done l.s (length l.initial.names - l.word-index) l.p [];
  filling : Filling max_snapshot_bytes (text then done) l.s (length l.initial.names) l.at (length l.initial.names - l.word-index) l.p l.word-index l.names;
}
