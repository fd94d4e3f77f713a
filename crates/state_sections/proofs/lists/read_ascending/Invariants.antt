use Prim.Native.Nat.{◌-◌}
use Rattle.std.proofs.Common.{option_map}
use Rattle.format.proofs.Entries.{Going}
use Rattle.format.specs.Format.{scan}
use Rattle.format.specs.Manifest.{counted}
use Rattle.state_wire.specs.Fields.{max_snapshot_bytes}
use Rattle.state_sections.specs.Tables.{prior}
use Rattle.state_sections.proofs.lists.read_ascending.Given as goal

abbrev pub invariant-loop : goal.invariant-loop
invariant-loop g l = Going (scan max_snapshot_bytes (counted g.e) l.s l.at) max_snapshot_bytes g.e.rule g.e.key g.e.rest l.s (l.n - l.counter) l.p (prior (option_map (λ k. k.now) l.last))
