-- The answer of the manifest, by its tables and the sorted paths.
use Prim.Native.Nat.{ℕ, ◌+◌, ◌*◌, ◌≤◌}
use native.Mathlib.Omega.{arith}
use mathlib.Core.Path.{◌≡◌, sym, ap, ◌∙◌}
use mathlib.Core.List.{List, map}
use lib.ListN.{length, length-map}
use Rattle.std.specs.Prelude.{Some, None, Result}
use Rattle.state.specs.declared.Question.{Question}
use Rattle.state.specs.Outcome.{said}
use Rattle.format.specs.Manifest.{connectors, entry}
use Rattle.format.specs.Fields.{connectors_of}
use Rattle.format.specs.Values.{value_at}
use Rattle.questions.specs.Sets.{first}
use Rattle.questions.specs.Inputs.{input_definitions_hold}
use Rattle.state_index.specs.declared.SortKey.TheVariants.{Text}
use Rattle.state_index.specs.Keys.{at_most}
use Rattle.state_index.specs.Sort.{Sorts}
use Rattle.state_layout.specs.Keys.{classes_of}
use Rattle.state_layout.specs.Tables.{manifest_of, table_of, room_start, Laid, Tabled}
use Rattle.state_layout.proofs.Indexed.{table-enums, table-connectors, table-externals, table-inputs, room}
use Rattle.state_io.specs.Paths.{external_paths, definition_at, count_agreeing, answer_among, answers_among, Sought}
use Rattle.state_io.proofs.Asked.{all-agree, types-differ, count-differs, definitions-answer, answers-perm, answers-are, externals-are}

-- the room behind the tables has two words for each connector
pub room_there : {s index : List ℕ} → Tabled s index → room_start s + 2 * length (connectors_of (manifest_of s)) ≤ length index
room_there t = omega (arith, room t)

module _ {s tables : List ℕ} (t : Laid s tables) where
  pub connectors_long : {words : List ℕ} → words ≡ table_of 4 s tables → length words ≡ length (connectors_of (manifest_of s))
  connectors_long e = rw e (sym (length-map (table_of 4 s tables) (value_at (entry connectors) s)) ∙ ap length (table-connectors t).values)

  -- questions 27 to 30, of the sorted paths of the external connectors
  module _ {paths : List ℕ} (g : Sorts (at_most Text s) (external_paths s (table_of 4 s tables) (table_of 10 s tables)) paths) where
    abbrev classes : List ℕ
    classes = table_of 2 s tables

    abbrev definitions : List ℕ
    definitions = table_of 12 s tables

    abbrev answer : Result Unit Question
    answer = said (first (input_definitions_hold (manifest_of s)))

    answered : said (first (answers_among s (classes_of s classes) paths definitions)) ≡ answer
    unfolding input_definitions_hold external_paths
    answered =
        ap (λ l. said (first l))
        (sym (answers-perm s (classes_of s classes) g.perm definitions)
        ∙ answers-are s _ (classes_of s classes) definitions
        ∙ rw ((table-enums t).values, (table-inputs t).values, externals-are t.bytes (table-connectors t) (table-externals t)))

    pub refused-27 : count_agreeing s paths ≡ None → said 27 ≡ answer
    refused-27 e = ap said (types-differ s paths g.ordered _ definitions e) ∙ answered

    module _ {n : ℕ} (e : count_agreeing s paths ≡ Some n) where
      pub refused-28 : (n ≡ length definitions → ⊥) → said 28 ≡ answer
      refused-28 d = ap said (count-differs s paths g.ordered _ definitions e d) ∙ answered

      pub sought : Sought s paths
      sought = record { ordered = g.ordered; agrees = all-agree s paths g.ordered e }

      pub each-answers : n ≡ length definitions
          → said (first (map (λ p. answer_among s (classes_of s classes) paths (definition_at s p)) definitions)) ≡ answer
      each-answers d = ap said (definitions-answer s paths g.ordered _ definitions e d) ∙ answered
