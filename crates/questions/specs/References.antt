-- Questions 17 to 20, 25 and 26: keys that name blocks and connectors.
use Rattle.std.specs.Prelude.{ℕ, List, [], ◌∷◌, map, Bool, ◌&&◌, length, eqb}
use Rattle.format.specs.Lists.{is_in, all_different}
use Rattle.format.specs.Format.{El, encode}
use Rattle.format.specs.Keys.{block_key, connector_key, direction}
use Rattle.format.specs.Manifest.{blocks, connectors, connections, schedule, connector_order, driver_of, external_inputs, boundary_outputs, manifest}
use Rattle.format.specs.Fields.{Entry, blocks_of, connectors_of, connections_of, schedule_of, connector_order_of, drivers_of, external_inputs_of, boundary_outputs_of, source, sink, scheduled, ordered, driven, driver, external_input, output_name, output_source}
use Rattle.questions.specs.Sets.{all, each_once, ◌unless◌}
use Rattle.questions.specs.Declarations.{block_names, connector_names}

-- a key that is among the connectors' names
unfoldable pub is_known : (names : List (List ℕ)) → El connector_key → Bool
is_known names k = is_in (encode connector_key k) names

-- and is of a direction: 0 in, 1 out
unfoldable pub is_directed : (names : List (List ℕ)) → (way : ℕ) → El connector_key → Bool
is_directed names way k = eqb (direction k) way && is_known names k

-- "17. Each connection from a known output to a known input?"
unfoldable pub joins : (names : List (List ℕ)) → Entry connections → Bool
joins names c = is_directed names 1 (source c) && is_directed names 0 (sink c)

-- "18. Schedule holds each block once?"
unfoldable pub schedule_holds : List (Entry schedule) → List (Entry blocks) → Bool
schedule_holds es bs = each_once (map (λ e. encode block_key (scheduled e)) es) (block_names bs)

-- "19. Connector order holds each connector once?"
unfoldable pub order_holds : List (Entry connector_order) → List (Entry connectors) → Bool
order_holds es cs = each_once (map (λ e. encode connector_key (ordered e)) es) (connector_names cs)

-- "20. As many drivers as connectors, all keys known?" "Driver entries need known keys on both sides, no direction"
unfoldable pub drives : (names : List (List ℕ)) → Entry driver_of → Bool
drives names d = is_known names (driven d) && is_known names (driver d)

unfoldable pub drivers_hold : List (Entry driver_of) → List (Entry connectors) → Bool
drivers_hold ds cs = eqb (length ds) (length cs) && all (drives (connector_names cs)) ds

unfoldable pub references : El manifest → List ℕ
references m =
    17 unless (all (joins (connector_names (connectors_of m))) (connections_of m))
    ∷ 18 unless (schedule_holds (schedule_of m) (blocks_of m))
    ∷ 19 unless (order_holds (connector_order_of m) (connectors_of m))
    ∷ 20 unless (drivers_hold (drivers_of m) (connectors_of m))
    ∷ []

-- "25. External inputs known, of direction in, different?"
unfoldable pub external_names : List (Entry external_inputs) → List (List ℕ)
external_names xs = map (λ x. encode connector_key (external_input x)) xs

unfoldable pub externals_hold : List (Entry external_inputs) → List (Entry connectors) → Bool
externals_hold xs cs = all (λ x. is_directed (connector_names cs) 0 (external_input x)) xs && all_different (external_names xs)

-- "26. Boundary sources known outputs, names different?"
unfoldable pub outputs_hold : List (Entry boundary_outputs) → List (Entry connectors) → Bool
outputs_hold os cs = all (λ o. is_directed (connector_names cs) 1 (output_source o)) os && all_different (map output_name os)

unfoldable pub boundaries : El manifest → List ℕ
boundaries m =
    25 unless (externals_hold (external_inputs_of m) (connectors_of m))
    ∷ 26 unless (outputs_hold (boundary_outputs_of m) (connectors_of m))
    ∷ []
