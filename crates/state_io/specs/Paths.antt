-- External paths by the positions at which they stand: a path is that of a connector, and the connector's type follows it.
use Rattle.std.specs.Prelude.{Option, Some, None, ℕ, ◌+◌, ◌≡◌, List, [], ◌∷◌, ◌++◌, map, Bool, true, not, cond, ◌&&◌, ◌||◌, length, eqb}
use Rattle.format.specs.Lists.{same, is_in}
use Rattle.format.specs.Format.{El, number, text}
use Rattle.format.specs.Keys.{connector_key}
use Rattle.format.specs.Manifest.{value_type, value, enums, connectors, external_inputs, input_definitions, entry}
use Rattle.format.specs.Fields.{Entry, input_path, input_type, minimum, maximum, given}
use Rattle.format.specs.Places.{past, key_at}
use Rattle.format.specs.Values.{value_at}
use Rattle.questions.specs.Sets.{keep, all, any, count_different, ◌unless◌, first}
use Rattle.questions.specs.Inputs.{same_type, bound_answer}
use Rattle.state_index.specs.declared.SortKey.TheVariants.{Text}
use Rattle.state_index.specs.Keys.{text_at, at_most}
use Rattle.state_index.specs.Sort.{Ordered}
use Rattle.state_layout.specs.Marks.{is_set}
use Rattle.state_layout.specs.Keys.{keys_of}

-- those whose marks are set
unfoldable pub chosen : (marks ps : List ℕ) → List ℕ
chosen [] ps = []
chosen (m ∷ marks) [] = []
chosen (m ∷ marks) (p ∷ ps) = cond (is_set m) (p ∷ chosen marks ps) (chosen marks ps)

-- where the paths stand of the connectors at ps that the external inputs at xs name
unfoldable pub external_paths : (s ps xs : List ℕ) → List ℕ
external_paths s ps xs = map (past connector_key s) (keep (λ p. is_in (key_at connectors s p) (keys_of external_inputs s xs)) ps)

-- the type of the connector whose path stands at q: it follows the declaration order
abbrev pub type_at : List ℕ → (q : ℕ) → El value_type
type_at s q = value_at value_type s (past (number 4) s (past text s q))

-- the definition at a position
abbrev pub definition_at : List ℕ → ℕ → Entry input_definitions
definition_at s p = value_at (entry input_definitions) s p

module _ (s : List ℕ) where
  -- where two paths are one, so are their types
  unfoldable pub agree : (p q : ℕ) → Bool
  agree p q = not (same (text_at s p) (text_at s q)) || same_type (type_at s p) (type_at s q)

  unfoldable pub all_agree : List ℕ → Bool
  all_agree ps = all (λ p. all (agree p) ps) ps

  -- one and the next
  unfoldable pub agree_next : ℕ → List ℕ → Bool
  agree_next p [] = true
  agree_next p (q ∷ qs) = agree p q

  unfoldable pub neighbours_agree : List ℕ → Bool
  neighbours_agree [] = true
  neighbours_agree (p ∷ ps) = agree_next p ps && neighbours_agree ps

  -- 1 where the next has another path
  unfoldable pub differ_next : ℕ → List ℕ → ℕ
  differ_next p [] = 1
  differ_next p (q ∷ qs) = cond (same (text_at s p) (text_at s q)) 0 1

  unfoldable pub count_runs : List ℕ → ℕ
  count_runs [] = 0
  count_runs (p ∷ ps) = differ_next p ps + count_runs ps

  -- whether two neighbours are two paths; none where they are one and have two types
  abbrev pub another : (p q : ℕ) → Option Bool
  another p q = cond (agree p q) (Some (not (same (text_at s p) (text_at s q)))) None

  -- how many paths there are, as neighbours tell; none where some have two types
  abbrev pub count_agreeing : List ℕ → Option ℕ
  count_agreeing ps = cond (neighbours_agree ps) (Some (count_runs ps)) None

  -- "28. .. each with a known path and its type?"
  unfoldable pub defined_among : List ℕ → Entry input_definitions → Bool
  defined_among qs d = any (λ q. same (text_at s q) (input_path d) && same_type (input_type d) (type_at s q)) qs

  unfoldable pub answer_among : List (Entry enums) → List ℕ → Entry input_definitions → ℕ
  answer_among es qs d =
      first (28 unless (defined_among qs d) ∷ map (bound_answer es (input_type d)) (given value (minimum d) ++ given value (maximum d)))

  -- questions 27 to 30 of the paths at qs and the definitions at ds
  unfoldable pub answers_among : List (Entry enums) → (qs ds : List ℕ) → List ℕ
  answers_among es qs ds =
      27 unless (all_agree qs)
      ∷ 28 unless (eqb (length ds) (count_different (map (text_at s) qs)))
      ∷ first (map (λ p. answer_among es qs (definition_at s p)) ds)
      ∷ []

-- paths that stand in order, and of each path one type
pub record Sought (s paths : List ℕ) : Type 0 where
  pub ordered : Ordered (at_most Text s) paths
  pub agrees : all_agree s paths ≡ true
