-- How many bytes the sections of a manifest take at least, by their numbers of entries.
use Prim.Native.Nat.{ℕ, ◌+◌, ◌*◌, ◌≤◌}
use native.Mathlib.Omega.{arith}
use native.Mathlib.Nat.{le_refl}
use mathlib.Core.Path.{◌≡◌, subst}
use mathlib.Core.List.{List, [], ◌∷◌, map}
use lib.ListN.{length}
use Rattle.state.specs.Outcome.{got}
use Rattle.state.proofs.Outcome.{Yields, this, yielded, yields-bind}
use Rattle.format.specs.Format.{El, read}
use Rattle.format.specs.Keys.{block_key, connector_key}
use Rattle.format.specs.Manifest.{value_type, value, members, params, connector_keys, block_head, block_rest, connector_rest, slot_rest, input_rest, portability, Section, entry, counted, lists, sequence, manifest}
use Rattle.format.specs.Fields.{enums_of, blocks_of, connectors_of, connections_of, schedule_of, connector_order_of, drivers_of, slots_of, external_inputs_of, boundary_outputs_of, input_definitions_of}
use Rattle.format.specs.Least.{least}
use Rattle.format.proofs.Bounds.{ahead, list-takes}
use Rattle.format.proofs.Values.{self}

-- of lists one after the other: each has its count's four bytes and the least bytes of its entries
abbrev pub least_of : (es : List Section) → El (sequence (map counted es)) → ℕ
least_of [] v = 0
least_of (e ∷ es) v = 4 + least (entry e) * length v.0 + least_of es v.1

module _ (limit : ℕ) (s : List ℕ) where
  yields-take : (es : List Section) (at : ℕ) → Yields (λ v n. at + least_of es v ≤ n) (read limit (sequence (map counted es)) s at)
  unfolding read least
  yields-take [] at = this {n = at} (omega arith)
  yields-take (e ∷ es) at =
      yields-bind (self (read limit (counted e) s at)) λ vs m ev.
      yields-bind (yields-take es m) λ vs' n q.
      let t = list-takes limit s 4 e.least e.rule e.key e.rest at ev (least (entry e)) (le_refl _) in
      this (omega (arith, t, q))

  -- a manifest takes so many bytes or more, after the tag of its first section; a connector takes 21 although question 7 tests 19
  pub sections-take : {v : El manifest} {n : ℕ} → read limit manifest s 0 ≡ got v n
      → 45 + 8 * length (enums_of v) + 34 * length (blocks_of v) + 21 * length (connectors_of v) + 20 * length (connections_of v)
      + 5 * length (schedule_of v) + 10 * length (connector_order_of v) + 20 * length (drivers_of v) + 21 * length (slots_of v)
      + 10 * length (external_inputs_of v) + 14 * length (boundary_outputs_of v) + 7 * length (input_definitions_of v) ≤ n
  unfolding read least manifest portability block_key connector_key value_type value members params connector_keys block_head block_rest connector_rest slot_rest input_rest enums_of blocks_of connectors_of connections_of schedule_of connector_order_of drivers_of slots_of external_inputs_of boundary_outputs_of input_definitions_of
  sections-take {v} {n} e =
      let t : 1 + least_of lists v.1 ≤ n = yielded (subst (Yields (λ (v : El manifest) n. 1 + least_of lists v.1 ≤ n)) e
      (yields-bind (ahead limit s portability 0 (omega arith)) λ p m w.
      yields-bind (yields-take lists m) λ vs n q.
      this (omega (arith, w.0, q)))) in
      omega (arith, t)
