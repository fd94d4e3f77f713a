-- The questions, from what the functions answer of the tables.
use Prim.Native.Nat.{ℕ, zero, suc, ◌+◌, ◌≤◌}
use native.Mathlib.Omega.{arith}
use mathlib.Core.Path.{◌≡◌, refl, sym, ap, ◌∙◌}
use mathlib.Core.Bool.{Bool, true, false, ◌&&◌, and_assoc}
use mathlib.Core.List.{List, [], ◌∷◌, map}
use lib.ListN.{length}
use Rattle.format.specs.Lists.{all_different}
use Rattle.format.specs.Manifest.{numbered, connectors}
use Rattle.format.specs.Fields.{blocks_of, connectors_of, connections_of, schedule_of, connector_order_of, drivers_of, external_inputs_of, boundary_outputs_of, output_name, output_source}
use Rattle.questions.specs.Sets.{all, all_in, each_once, ◌unless◌, first}
use Rattle.std.specs.Prelude.{Result, Ok, Err}
use Rattle.state.specs.Outcome.{said}
use Rattle.state.specs.declared.Question.{Question}
use Rattle.questions.specs.Declarations.{connector_names}
use Rattle.questions.specs.References.{is_directed, joins, drives, schedule_holds, order_holds, externals_hold}
use Rattle.state_index.specs.Keys.{text_at}
use Rattle.state_layout.specs.Tables.{manifest_of, table_of, Laid}
use Rattle.state_layout.proofs.Indexed.{rows, table_long, table-blocks, table-connectors, table-connections, table-schedule, table-order, table-drivers, table-externals, table-outputs}
use Rattle.state_layout.proofs.Names.{names-blocks, names-connectors}
use Rattle.state_layout.specs.Keys.{keys_of}
use Rattle.state_references.specs.Known.{of_way, joins_at, drives_at, source_at}
use Rattle.state_references.specs.Rooms.{keys_listed, Roomy}
use Rattle.state_references.proofs.Valued.{all-join-is, all-drive-is, all-output-is, all-external-is, keys-schedule, keys-order, keys-externals, names-outputs}

module _ {s tables : List ℕ} (t : Laid s tables) where
  -- the names of the connectors
  abbrev known : List (List ℕ)
  known = connector_names (connectors_of (manifest_of s))

  pub names-known : keys_of connectors s (table_of 4 s tables) ≡ known
  names-known = names-connectors t.bytes (table-connectors t)

  pub connections_answer : all (joins_at s known) (table_of 5 s tables) ≡ all (joins known) (connections_of (manifest_of s))
  connections_answer = all-join-is t.bytes known (table-connections t)

  pub schedule_answer : each_once (keys_listed 3 6 s tables) (keys_listed 3 3 s tables) ≡ schedule_holds (schedule_of (manifest_of s)) (blocks_of (manifest_of s))
  unfolding numbered schedule_holds
  schedule_answer = rw (keys-schedule t.bytes (table-schedule t), names-blocks t.bytes (table-blocks t))

  pub order_answer : each_once (keys_listed 4 7 s tables) (keys_listed 4 4 s tables) ≡ order_holds (connector_order_of (manifest_of s)) (connectors_of (manifest_of s))
  unfolding numbered order_holds
  order_answer = rw (keys-order t.bytes (table-order t), names-connectors t.bytes (table-connectors t))

  pub drivers_answer : all (drives_at s known) (table_of 8 s tables) ≡ all (drives known) (drivers_of (manifest_of s))
  drivers_answer = all-drive-is t.bytes known (table-drivers t)

  pub drivers_long : length (table_of 8 s tables) ≡ length (drivers_of (manifest_of s))
  drivers_long = omega (arith, table_long t 8 (omega arith), (rows (manifest_of s)).drivers)

  pub connectors_long : length (table_of 4 s tables) ≡ length (connectors_of (manifest_of s))
  connectors_long = omega (arith, table_long t 4 (omega arith), (rows (manifest_of s)).connectors)

  -- of direction in; then known and different
  externals-are : externals_hold (external_inputs_of (manifest_of s)) (connectors_of (manifest_of s))
      ≡ (all (of_way s 0) (table_of 10 s tables) && (all_in (keys_listed 4 10 s tables) (keys_listed 4 4 s tables) && all_different (keys_listed 4 10 s tables)))
  unfolding numbered externals_hold
  externals-are =
      rw (← all-external-is t.bytes known (table-externals t), ← keys-externals t.bytes (table-externals t), names-connectors t.bytes (table-connectors t))
      (and_assoc (all (of_way s 0) (table_of 10 s tables)) (all_in (keys_listed 4 10 s tables) known) (all_different (keys_listed 4 10 s tables)))

  pub externals_other : {r : Bool} → r ≡ all (of_way s 0) (table_of 10 s tables) → r ≡ false → r ≡ externals_hold (external_inputs_of (manifest_of s)) (connectors_of (manifest_of s))
  externals_other i n = sym (externals-are ∙ rw (← i, n))

  pub externals_answer : {r : Bool} → true ≡ all (of_way s 0) (table_of 10 s tables)
      → r ≡ (all_in (keys_listed 4 10 s tables) (keys_listed 4 4 s tables) && all_different (keys_listed 4 10 s tables))
      → r ≡ externals_hold (external_inputs_of (manifest_of s)) (connectors_of (manifest_of s))
  externals_answer y e = e ∙ sym (externals-are ∙ rw (← y))

  pub sources_answer : all (source_at s known) (table_of 11 s tables) ≡ all (λ o. is_directed known 1 (output_source o)) (boundary_outputs_of (manifest_of s))
  sources_answer = all-output-is t.bytes known (table-outputs t)

  pub names_answer : all_different (map (text_at s) (table_of 11 s tables)) ≡ all_different (map output_name (boundary_outputs_of (manifest_of s)))
  names_answer = ap all_different (names-outputs (table-outputs t))

  -- ---- the room is long enough
  -- for marks of a section whose keys ascend
  pub room_marks : (k : ℕ) (room : List ℕ) → 2 ≤ k → k ≤ 4 → Roomy s room → length (table_of k s tables) ≤ length room
  room_marks k room h l r = by-case k h l
    where
      by-case : (k : ℕ) → 2 ≤ k → k ≤ 4 → length (table_of k s tables) ≤ length room
      by-case zero h l = absurd (omega arith)
      by-case (suc zero) h l = absurd (omega arith)
      by-case (suc (suc zero)) h l = let m = rows (manifest_of s) in omega (arith, table_long t 2 (omega arith))
      by-case (suc (suc (suc zero))) h l = let m = rows (manifest_of s) in omega (arith, table_long t 3 (omega arith))
      by-case (suc (suc (suc (suc zero)))) h l = let m = rows (manifest_of s) in omega (arith, table_long t 4 (omega arith))
      by-case (suc (suc (suc (suc (suc k))))) h l = absurd (omega arith)

  pub room_names : (room : List ℕ) → Roomy s room → length (table_of 11 s tables) + length (table_of 11 s tables) ≤ length room
  room_names room h = let r = rows (manifest_of s) in omega (arith, table_long t 11 (omega arith))

-- ---- one question after another
module _ (q : ℕ) (qs : List ℕ) {b : Bool} where
  pub no_first : b ≡ false → Err (record { 0 = suc q }) ≡ said (first ((suc q unless b) ∷ qs))
  unfolding first ◌unless◌
  no_first e = rw e

  pub yes_first : {r : Result Unit Question} → b ≡ true → r ≡ said (first qs) → r ≡ said (first ((q unless b) ∷ qs))
  unfolding first ◌unless◌
  yes_first e i = rw e i

pub yes_all : Ok tt ≡ said (first [])
unfolding first
yes_all = refl
