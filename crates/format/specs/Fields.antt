-- Names for the parts of a manifest's value, the Rust's: sections, entries, fields.
use Rattle.std.specs.Prelude.{ℕ, zero, suc, List, [], ◌∷◌}
use Rattle.format.specs.Format.{Fmt, El, text}
use Rattle.format.specs.Keys.{block_key, connector_key}
use Rattle.format.specs.Manifest.{value_type, value, optional, members, params, connector_keys, block_head, block_rest, connector_rest, slot_rest, input_rest, portability, Section, entry, enums, blocks, connectors, connections, schedule, connector_order, driver_of, state_slots, external_inputs, boundary_outputs, input_definitions, manifest}

-- an entry: its key and the rest
abbrev pub Entry : Section → Type 0
Entry e = El (entry e)

-- ---- the sections of a manifest
unfoldable pub portability_of : El manifest → El portability
unfolding manifest
portability_of m = m.0

unfoldable pub enums_of : El manifest → List (Entry enums)
unfolding manifest
enums_of m = m.1.0

unfoldable pub blocks_of : El manifest → List (Entry blocks)
unfolding manifest
blocks_of m = m.1.1.0

unfoldable pub connectors_of : El manifest → List (Entry connectors)
unfolding manifest
connectors_of m = m.1.1.1.0

unfoldable pub connections_of : El manifest → List (Entry connections)
unfolding manifest
connections_of m = m.1.1.1.1.0

unfoldable pub schedule_of : El manifest → List (Entry schedule)
unfolding manifest
schedule_of m = m.1.1.1.1.1.0

unfoldable pub connector_order_of : El manifest → List (Entry connector_order)
unfolding manifest
connector_order_of m = m.1.1.1.1.1.1.0

unfoldable pub drivers_of : El manifest → List (Entry driver_of)
unfolding manifest
drivers_of m = m.1.1.1.1.1.1.1.0

unfoldable pub slots_of : El manifest → List (Entry state_slots)
unfolding manifest
slots_of m = m.1.1.1.1.1.1.1.1.0

unfoldable pub external_inputs_of : El manifest → List (Entry external_inputs)
unfolding manifest
external_inputs_of m = m.1.1.1.1.1.1.1.1.1.0

unfoldable pub boundary_outputs_of : El manifest → List (Entry boundary_outputs)
unfolding manifest
boundary_outputs_of m = m.1.1.1.1.1.1.1.1.1.1.0

unfoldable pub input_definitions_of : El manifest → List (Entry input_definitions)
unfolding manifest
input_definitions_of m = m.1.1.1.1.1.1.1.1.1.1.1.0

-- ---- section 1: 0, portable, or 1, bound to the target; then arch and os
unfoldable pub portability_tag : El portability → ℕ
unfolding portability
portability_tag p = p.0

-- arch and os, none where portable
unfoldable pub target : El portability → List (List ℕ)
unfolding portability
target (zero, none) = []
target (suc zero, names) = names.0 ∷ names.1 ∷ []
target (suc (suc t), none) = []

-- ---- an enum class
unfoldable pub enum_path : Entry enums → List ℕ
enum_path e = e.0

unfoldable pub members_of : Entry enums → El members
members_of e = e.1

-- ---- a block
unfoldable pub block_key_of : Entry blocks → El block_key
block_key_of b = b.0

unfoldable pub class_path : Entry blocks → List ℕ
unfolding block_rest block_head
class_path b = b.1.0.0

-- 0: algebraic, 1: stateful
unfoldable pub kind : Entry blocks → ℕ
unfolding block_rest block_head
kind b = b.1.0.1.0

unfoldable pub state_revision : Entry blocks → ℕ
unfolding block_rest block_head
state_revision b = b.1.0.1.1.0

unfoldable pub state_len : Entry blocks → ℕ
unfolding block_rest block_head
state_len b = b.1.0.1.1.1

unfoldable pub params_of : Entry blocks → El params
unfolding block_rest
params_of b = b.1.1.0

unfoldable pub inputs : Entry blocks → El connector_keys
unfolding block_rest
inputs b = b.1.1.1.0

unfoldable pub outputs : Entry blocks → El connector_keys
unfolding block_rest
outputs b = b.1.1.1.1

-- ---- a connector
unfoldable pub connector_key_of : Entry connectors → El connector_key
connector_key_of c = c.0

unfoldable pub path : Entry connectors → List ℕ
unfolding connector_rest
path c = c.1.0

unfoldable pub declaration_order : Entry connectors → ℕ
unfolding connector_rest
declaration_order c = c.1.1.0

unfoldable pub value_type_of : Entry connectors → El value_type
unfolding connector_rest
value_type_of c = c.1.1.1.0

unfoldable pub unit : Entry connectors → El (optional text)
unfolding connector_rest
unit c = c.1.1.1.1.0

unfoldable pub quantity : Entry connectors → El (optional text)
unfolding connector_rest
quantity c = c.1.1.1.1.1

-- ---- a connection, a scheduled block, an ordered connector, a driver
unfoldable pub source : Entry connections → El connector_key
source c = c.0.0

unfoldable pub sink : Entry connections → El connector_key
sink c = c.0.1

unfoldable pub scheduled : Entry schedule → El block_key
scheduled e = e.0

unfoldable pub ordered : Entry connector_order → El connector_key
ordered e = e.0

unfoldable pub driven : Entry driver_of → El connector_key
driven d = d.0

unfoldable pub driver : Entry driver_of → El connector_key
driver d = d.1

-- ---- a slot
unfoldable pub slot_key : Entry state_slots → El block_key
slot_key e = e.0

unfoldable pub slot_offset : Entry state_slots → ℕ
unfolding slot_rest
slot_offset e = e.1.0

unfoldable pub slot_length : Entry state_slots → ℕ
unfolding slot_rest
slot_length e = e.1.1

-- ---- an external input, a boundary output
unfoldable pub external_input : Entry external_inputs → El connector_key
external_input e = e.0

unfoldable pub output_name : Entry boundary_outputs → List ℕ
output_name e = e.0

unfoldable pub output_source : Entry boundary_outputs → El connector_key
output_source e = e.1

-- ---- an input definition
unfoldable pub input_path : Entry input_definitions → List ℕ
input_path d = d.0

unfoldable pub input_type : Entry input_definitions → El value_type
unfolding input_rest
input_type d = d.1.0

unfoldable pub minimum : Entry input_definitions → El (optional value)
unfolding input_rest
minimum d = d.1.1.0

unfoldable pub maximum : Entry input_definitions → El (optional value)
unfolding input_rest
maximum d = d.1.1.1

-- ---- values and types: 0 real, 1 integer, 2 Boolean, 3 string, 4 enum
unfoldable pub type_tag : El value_type → ℕ
unfolding value_type
type_tag t = t.0

unfoldable pub value_tag : El value → ℕ
unfolding value
value_tag v = v.0

-- the class path of an enum type or value, none of any other; an enum value's ordinal
unfoldable pub type_class : El value_type → List (List ℕ)
unfolding value_type
type_class (zero, none) = []
type_class (suc zero, none) = []
type_class (suc (suc zero), none) = []
type_class (suc (suc (suc zero)), none) = []
type_class (suc (suc (suc (suc zero))), class) = class ∷ []
type_class (suc (suc (suc (suc (suc t)))), none) = []

unfoldable pub value_class : El value → List (List ℕ)
unfolding value
value_class (zero, real) = []
value_class (suc zero, integer) = []
value_class (suc (suc zero), bit) = []
value_class (suc (suc (suc zero)), string) = []
value_class (suc (suc (suc (suc zero))), enum) = enum.0 ∷ []
value_class (suc (suc (suc (suc (suc t)))), none) = []

unfoldable pub ordinal : El value → ℕ
unfolding value
ordinal (zero, real) = 0
ordinal (suc zero, integer) = 0
ordinal (suc (suc zero), bit) = 0
ordinal (suc (suc (suc zero)), string) = 0
ordinal (suc (suc (suc (suc zero))), enum) = enum.1
ordinal (suc (suc (suc (suc (suc t)))), none) = 0

-- what may be left out, where it is given
module _ (f : Fmt) where
  unfoldable pub given : El (optional f) → List (El f)
  given (zero, none) = []
  given (suc zero, v) = v ∷ []
  given (suc (suc t), none) = []
