-- Where questions 33 to 37 find what they ask about: what the contracts of this crate cite.
use Rattle.std.specs.Prelude.{ℕ, ◌≡◌, true, List, map}
use Rattle.format.specs.Manifest.{entry, connectors}
use Rattle.format.specs.Fields.{Entry, slots_of}
use Rattle.format.specs.Values.{value_at}
use Rattle.questions.specs.Sets.{all}
use Rattle.questions.specs.Declarations.{connector_names}
use Rattle.questions.specs.Slots.{end_fits}
use Rattle.state_layout.specs.Keys.{keys_of}
use Rattle.state_layout.specs.Tables.{manifest_of, Tabled}

-- the connectors that words list
abbrev pub connectors_at : (s words : List ℕ) → List (Entry connectors)
connectors_at s words = map (value_at (entry connectors) s) words

-- their keys stand as they are written
abbrev pub Listed : (s words : List ℕ) → Type 0
Listed s words = keys_of connectors s words ≡ connector_names (connectors_at s words)

-- a manifest that was read and asked, with its tables
pub record Asked (s index : List ℕ) : Type 0 where
  pub tabled : Tabled s index
  pub fits : all end_fits (slots_of (manifest_of s)) ≡ true
