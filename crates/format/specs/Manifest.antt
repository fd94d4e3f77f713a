-- The execution manifest as a format: document 01, "The wire", with the entry layouts of `decode_manifest` and `read_inputs`.
use Rattle.std.specs.Prelude.{ℕ, ◌-◌, List, [], ◌∷◌, map, get_or}
use Rattle.format.specs.Format.{wire, plain, Rule, free, distinct, early, late, Fmt, done, number, tag, text, ◌then◌, list, choice}
use Rattle.format.specs.Keys.{block_key, connector_key}

-- ---- fields
-- a Boolean byte, and what follows if it is 1
abbrev pub optional : Fmt → Fmt
optional f = choice (done ∷ f ∷ [])

-- `read_value_type`: real, integer, Boolean, string, and enum with the path of its class
unfoldable pub value_type : Fmt
value_type = choice (done ∷ done ∷ done ∷ done ∷ text ∷ [])

-- `read_value`: a real's eight bytes, an integer's, a Boolean, a string, an enum's class path and ordinal
unfoldable pub value : Fmt
value = choice (number 8 ∷ number 8 ∷ tag 2 ∷ text ∷ (text then number 4) ∷ [])

-- "member 4": all different, question 8
unfoldable pub members : Fmt
members = list 4 4 (distinct plain) text done

-- "parameter 6": a name and a value
unfoldable pub params : Fmt
params = list 4 6 (late plain) text value

-- `read_connector_keys`: "port 10"
unfoldable pub connector_keys : Fmt
connector_keys = list 4 10 free connector_key done

-- class path, kind, state revision, state length
unfoldable pub block_head : Fmt
block_head = text then tag 2 then number 4 then number 8

-- and parameters, inputs, outputs
unfoldable pub block_rest : Fmt
block_rest = block_head then params then connector_keys then connector_keys

-- path, declaration order, value type, unit, quantity
unfoldable pub connector_rest : Fmt
connector_rest = text then number 4 then value_type then optional text then optional text

-- offset, length
unfoldable pub slot_rest : Fmt
slot_rest = number 8 then number 8

-- value type, minimum, maximum
unfoldable pub input_rest : Fmt
input_rest = value_type then optional value then optional value

-- ---- sections
-- "Section 1 is tag 0 (portable), or 1 with two strings, arch and os"
unfoldable pub portability : Fmt
portability = optional (text then text)

-- "Each other section is a u32 count, then its entries": the least bytes of an entry, how the keys stand, an entry's key and the rest of it
pub record Section : Type 0 where
  pub least : ℕ
  pub rule : Rule
  pub key : Fmt
  pub rest : Fmt

abbrev pub entry : Section → Fmt
entry e = e.key then e.rest

abbrev pub counted : Section → Fmt
counted e = list 4 e.least e.rule e.key e.rest

abbrev pub section : (least : ℕ) → Rule → (key rest : Fmt) → Section
section l u k r = record { least = l; rule = u; key = k; rest = r }

-- "Sections 2, 3, 4, 5, 8, 9, 12 .. ascend strictly by key; section 5 by both keys". "A connector really needs 21; 19 is what the Rust tests"
abbrev pub enums : Section
enums = section 8 (late plain) text members

abbrev pub blocks : Section
blocks = section 34 (late wire) block_key block_rest

abbrev pub connectors : Section
connectors = section 19 (late wire) connector_key connector_rest

abbrev pub connections : Section
connections = section 20 (late wire) (connector_key then connector_key) done

abbrev pub schedule : Section
schedule = section 5 free block_key done

abbrev pub connector_order : Section
connector_order = section 10 free connector_key done

abbrev pub driver_of : Section
driver_of = section 20 (late wire) connector_key connector_key

abbrev pub state_slots : Section
state_slots = section 21 (late wire) block_key slot_rest

abbrev pub external_inputs : Section
external_inputs = section 10 free connector_key done

abbrev pub boundary_outputs : Section
boundary_outputs = section 14 free text connector_key

abbrev pub input_definitions : Section
input_definitions = section 7 (early plain) text input_rest

-- sections 2 to 12
abbrev pub lists : List Section
lists =
    enums ∷ blocks ∷ connectors ∷ connections ∷ schedule ∷ connector_order ∷ driver_of ∷ state_slots ∷ external_inputs ∷ boundary_outputs
    ∷ input_definitions ∷ []

-- by its number; 12 stands for any above
unfoldable pub numbered : ℕ → Section
numbered n = get_or lists (n - 2) input_definitions

-- "Twelve sections"
abbrev pub sections : List Fmt
sections = portability ∷ map counted lists

-- one format after another
abbrev pub sequence : List Fmt → Fmt
sequence [] = done
sequence (f ∷ fs) = f then sequence fs

unfoldable pub manifest : Fmt
manifest = sequence sections
