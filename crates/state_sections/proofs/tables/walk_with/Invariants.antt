use Prim.Native.Nat.{◌-◌}
use Rattle.std.proofs.Common.{option_map}
use Rattle.state_wire.specs.Fields.{max_snapshot_bytes}
use Rattle.state_sections.proofs.Walking.{Walking}
use Rattle.state_sections.proofs.tables.walk_with.Given as goal

abbrev pub invariant-loop-w : goal.invariant-loop-w
invariant-loop-w g l = Walking max_snapshot_bytes l.section l.layout l.s l.at (l.n - l.w) l.p (option_map (λ k. k.now) l.last) l.w l.index
