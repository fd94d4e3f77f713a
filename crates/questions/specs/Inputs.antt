-- Questions 27 to 30: input definitions against the external inputs.
use Rattle.std.specs.Prelude.{ℕ, List, [], ◌∷◌, ◌++◌, map, Bool, not, ◌&&◌, ◌||◌, length, eqb}
use Rattle.format.specs.Lists.{same, is_in}
use Rattle.format.specs.Format.{El, encode}
use Rattle.format.specs.Keys.{connector_key}
use Rattle.format.specs.Manifest.{value_type, value, enums, connectors, external_inputs, input_definitions, manifest}
use Rattle.format.specs.Fields.{Entry, enums_of, connectors_of, external_inputs_of, input_definitions_of, connector_key_of, path, value_type_of, input_path, input_type, minimum, maximum, type_tag, value_tag, type_class, value_class, given}
use Rattle.questions.specs.Sets.{all, any, keep, all_in, count_different, ◌unless◌, first}
use Rattle.questions.specs.Declarations.{enum_holds}
use Rattle.questions.specs.References.{external_names}

-- the connectors that external inputs name
unfoldable pub externals : List (Entry external_inputs) → List (Entry connectors) → List (Entry connectors)
externals xs cs = keep (λ c. is_in (encode connector_key (connector_key_of c)) (external_names xs)) cs

-- types are one if their tags are, and the class of an enum
unfoldable pub same_type : El value_type → El value_type → Bool
same_type t u = eqb (type_tag t) (type_tag u) && all_in (type_class t) (type_class u)

unfoldable pub has_type : El value → El value_type → Bool
has_type v t = eqb (value_tag v) (type_tag t) && all_in (value_class v) (type_class t)

-- "27. One type for each external path?"
unfoldable pub one_type : List (Entry connectors) → Bool
one_type xs = all (λ c. all (λ d. not (same (path c) (path d)) || same_type (value_type_of c) (value_type_of d)) xs) xs

-- "28. As many definitions as such paths, .."
unfoldable pub count_is : List (Entry input_definitions) → List (Entry connectors) → Bool
count_is ds xs = eqb (length ds) (count_different (map path xs))

-- ".. then each with a known path and its type?"
unfoldable pub is_defined : List (Entry connectors) → Entry input_definitions → Bool
is_defined xs d = any (λ c. same (path c) (input_path d) && same_type (input_type d) (value_type_of c)) xs

-- "29. Its minimum, then maximum: of that type, neither Boolean nor String?"
unfoldable pub bound_holds : El value_type → El value → Bool
bound_holds t v = not (eqb (value_tag v) 2 || eqb (value_tag v) 3) && has_type v t

-- "30. and an enum ordinal in range?"
unfoldable pub bound_answer : List (Entry enums) → El value_type → El value → ℕ
bound_answer es t v = first (29 unless (bound_holds t v) ∷ 30 unless (enum_holds es v) ∷ [])

-- "28 to 30 go definition by definition; the minimum meets 29 and 30 before the maximum does"
unfoldable pub definition_answer : List (Entry enums) → List (Entry connectors) → Entry input_definitions → ℕ
definition_answer es xs d =
    first (28 unless (is_defined xs d) ∷ map (bound_answer es (input_type d)) (given value (minimum d) ++ given value (maximum d)))

unfoldable pub input_answers : List (Entry enums) → List (Entry connectors) → List (Entry input_definitions) → List ℕ
input_answers es xs ds = 27 unless (one_type xs) ∷ 28 unless (count_is ds xs) ∷ first (map (definition_answer es xs) ds) ∷ []

unfoldable pub input_definitions_hold : El manifest → List ℕ
input_definitions_hold m = input_answers (enums_of m) (externals (external_inputs_of m) (connectors_of m)) (input_definitions_of m)
