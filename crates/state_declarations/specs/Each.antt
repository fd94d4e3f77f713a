-- What private functions ask of positions, whatever the bytes are, and what marking keys one after the other does.
use Rattle.std.specs.Prelude.{Option, ℕ, zero, suc, ◌+◌, min, ◌≡◌, Bool, true, ◌&&◌, cond, List, [], ◌∷◌, ◌++◌, length, get_or, eqb}
use Rattle.std.specs.Option.{is_some}
use Rattle.state.specs.Bytes.{span}
use Rattle.format.specs.Lists.{same}
use Rattle.format.specs.Format.{Fmt, text, number, ◌then◌}
use Rattle.format.specs.Keys.{block_key, connector_key}
use Rattle.format.specs.Manifest.{value, params, connector_keys, block_head, enums}
use Rattle.format.specs.Fields.{Entry}
use Rattle.format.specs.Places.{number_at, past}
use Rattle.format.specs.Values.{value_at}
use Rattle.questions.specs.Sets.{all_in}
use Rattle.questions.specs.Declarations.{enum_holds}
use Rattle.state_layout.specs.Marks.{marks_of}

-- ---- counted lists: of n entries from a position on, each has a place, a start and an end
module _ (entry : Fmt) (s : List ℕ) where
  -- does each pass a test, from place i on?
  unfoldable pub each_from : (test : (place start : ℕ) → Bool) → (i n at : ℕ) → Bool
  each_from test i zero at = true
  each_from test i (suc n) at = test i at && each_from test (suc i) n (past entry s at)

  -- the keys that they name, one after the other
  unfoldable pub names_from : (names : (start end : ℕ) → List (List ℕ)) → (n at : ℕ) → List (List ℕ)
  names_from names zero at = []
  names_from names (suc n) at = names at (past entry s at) ++ names_from names n (past entry s at)

  -- of the list at a position
  abbrev pub each_in : ((place start : ℕ) → Bool) → ℕ → Bool
  each_in test at = each_from test 0 (number_at 4 s at) (min (at + 4) (length s))

  abbrev pub names_in : ((start end : ℕ) → List (List ℕ)) → ℕ → List (List ℕ)
  names_in names at = names_from names (number_at 4 s at) (min (at + 4) (length s))

-- what is asked of each entry
pub record Asked : Type 0 where
  pub entry : Fmt
  pub test : (place start : ℕ) → Bool

-- ---- parts of blocks, and ports
abbrev pub params_at : List ℕ → ℕ → ℕ
params_at s at = past block_head s (past block_key s at)

abbrev pub inputs_at : List ℕ → ℕ → ℕ
inputs_at s at = past params s (params_at s at)

abbrev pub outputs_at : List ℕ → ℕ → ℕ
outputs_at s at = past connector_keys s (inputs_at s at)

-- is the value of the parameter at a position of a class, its ordinal in range, if it is an enum value at all?
abbrev pub has_class : List ℕ → List (Entry enums) → ℕ → Bool
has_class s classes at = enum_holds classes (value_at value s (past text s at))

-- is the port at a position of the block at one, of this direction and this index?
unfoldable pub is_port : List ℕ → (block way place at : ℕ) → Bool
is_port s block way place at =
    let end = past block_key s at in
    same (span s at end) (span s block (past block_key s block)) && (eqb (get_or s end 0) way && eqb (number_at 4 s (min (end + 1) (length s))) place)

-- those of the list at a position?
unfoldable pub are_ports : List ℕ → (block way at : ℕ) → Bool
are_ports s block way at = each_in connector_key s (is_port s block way) at

-- ---- the keys that are named, as they are written
-- by the list of connector keys at a position
unfoldable pub keys_named : List ℕ → ℕ → List (List ℕ)
keys_named s at = names_in connector_key s (λ start end. span s start end ∷ []) at

-- by the ports of the block at a position
abbrev pub ports_named : List ℕ → ℕ → List (List ℕ)
ports_named s at = keys_named s (inputs_at s at) ++ keys_named s (outputs_at s at)

-- by the value or the value type at a position: its path follows tag 4
unfoldable pub class_at : List ℕ → ℕ → List (List ℕ)
class_at s at = cond (eqb (get_or s at 0) 4) (value_at text s (min (at + 1) (length s)) ∷ []) []

-- by the parameters of the block at a position
unfoldable pub classes_named : List ℕ → ℕ → List (List ℕ)
classes_named s at = names_in (text then value) s (λ start end. class_at s (past text s start)) (params_at s at)

-- by the value type of the connector at a position
abbrev pub type_named : List ℕ → ℕ → List (List ℕ)
type_named s at = class_at s (past (number 4) s (past text s (past connector_key s at)))

-- ---- marks
-- the keys met so far, the last in front
unfoldable pub met : (keys seen : List (List ℕ)) → List (List ℕ)
met [] seen = seen
met (k ∷ keys) seen = met keys (k ∷ seen)

-- None where a key is not listed; otherwise all are marked
pub record MarksEach (listed keys : List (List ℕ)) (r : Option ℕ) (old new : List ℕ) : Type 0 where
  pub found : is_some r ≡ all_in keys listed
  pub marks : is_some r ≡ true → (seen : List (List ℕ)) → old ≡ marks_of seen listed → new ≡ marks_of (met keys seen) listed

-- the keys that are listed, as many as there are marks, and those that the entry at a position names
pub record Naming : Type 0 where
  pub count : ℕ
  pub listed : List (List ℕ)
  pub names : ℕ → List (List ℕ)

-- those that an entry of a list names, which starts and ends at positions
pub record ListNaming : Type 0 where
  pub entry : Fmt
  pub count : ℕ
  pub listed : List (List ℕ)
  pub names : (start end : ℕ) → List (List ℕ)
