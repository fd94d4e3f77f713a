-- The tables of the lent index while questions are asked: the starts of the sections, then those of their entries, section by section.
use Rattle.std.specs.Prelude.{ℕ, suc, ◌+◌, ◌*◌, ◌-◌, ◌≤◌, ◌≡◌, List, [], ◌∷◌, ◌++◌, map, length, take, true}
use Rattle.state.specs.Bytes.{AreBytes, span}
use Rattle.state_wire.specs.Fields.{max_snapshot_bytes}
use Rattle.format.specs.Format.{El, encode}
use Rattle.format.specs.Admits.{All, shown, in_order}
use Rattle.format.specs.Manifest.{Section, entry, counted, lists, sequence, manifest}
use Rattle.format.specs.Fields.{Entry, enums_of, blocks_of, connectors_of, slots_of, external_inputs_of, boundary_outputs_of}
use Rattle.format.specs.Places.{manifest_starts, manifest_entries, past}
use Rattle.format.specs.Reading.{index_words}
use Rattle.format.specs.Values.{value_at, Well}
use Rattle.questions.specs.Sets.{sum}

-- the manifest that bytes spell; where they were accepted by questions 3 to 10, the one that was read
abbrev pub manifest_of : List ℕ → El manifest
manifest_of s = value_at manifest s 0

-- how many entries each list has
unfoldable pub counts : (es : List Section) → El (sequence (map counted es)) → List ℕ
counts [] v = []
counts (e ∷ es) v = length v.0 ∷ counts es v.1

-- the word from which on the entries of section k stand
unfoldable pub table_start : (k : ℕ) → El manifest → ℕ
unfolding manifest
table_start k m = 12 + sum (take (k - 2) (counts lists m.1))

-- the words that it lists
abbrev pub table_of : (k : ℕ) → (s index : List ℕ) → List ℕ
table_of k s index = span index (table_start k (manifest_of s)) (table_start (suc k) (manifest_of s))

-- where all tables end
abbrev pub room_start : List ℕ → ℕ
room_start s = table_start 13 (manifest_of s)

-- where the room ends that questions need behind them: for marks of classes, blocks and connectors, and to sort connectors, slots, external
-- inputs or boundary outputs
abbrev pub room_end : List ℕ → ℕ
room_end s =
    room_start s + length (enums_of (manifest_of s)) + length (blocks_of (manifest_of s)) + 3 * length (connectors_of (manifest_of s))
    + 2 * length (slots_of (manifest_of s)) + 2 * length (external_inputs_of (manifest_of s)) + 2 * length (boundary_outputs_of (manifest_of s))

-- words that begin with the tables of a manifest that was read
pub record Laid (s index : List ℕ) : Type 0 where
  pub bytes : AreBytes s
  pub short : length s ≤ max_snapshot_bytes
  pub well : Well max_snapshot_bytes manifest s 0
  pub whole : past manifest s 0 ≡ length s
  pub there : room_start s ≤ length index
  pub words : take (room_start s) index ≡ manifest_starts max_snapshot_bytes s ++ manifest_entries max_snapshot_bytes s

-- an index as `read_manifest` leaves it where it refuses nothing
pub record Tabled (s index : List ℕ) : Type 0 where
  pub bytes : AreBytes s
  pub short : length s ≤ max_snapshot_bytes
  pub well : Well max_snapshot_bytes manifest s 0
  pub whole : past manifest s 0 ≡ length s
  pub words : take (room_start s) index ≡ manifest_starts max_snapshot_bytes s ++ manifest_entries max_snapshot_bytes s
  pub long : index_words (length s) ≤ length index

-- words of which the first twelve are the starts of the sections of a manifest that was read, as acceptance leaves the index
pub record Started (s index : List ℕ) : Type 0 where
  pub well : Well max_snapshot_bytes manifest s 0
  pub long : 12 ≤ length index
  pub starts : take 12 index ≡ manifest_starts max_snapshot_bytes s

-- the entries of a section: each was read at its word, and their keys stand as the section's rule asks
pub record Table (e : Section) (s ps : List ℕ) (vs : List (Entry e)) : Type 0 where
  pub values : map (value_at (entry e) s) ps ≡ vs
  pub well : All (Well max_snapshot_bytes (entry e) s) ps
  pub order : in_order e.rule (map (λ v. shown e.rule (encode e.key v.0)) vs) [] ≡ true

-- what asking a question leaves of the index: its tables
pub record Leaves (s old new : List ℕ) : Type 0 where
  pub tabled : Tabled s new
  pub long : length new ≡ length old
