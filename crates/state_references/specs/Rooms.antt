-- The room behind the tables, and the keys that tables list.
use Rattle.std.specs.Prelude.{ℕ, ◌+◌, ◌≤◌, List, length}
use Rattle.format.specs.Manifest.{numbered}
use Rattle.state_layout.specs.Tables.{table_of, room_start, room_end}
use Rattle.state_layout.specs.Keys.{keys_of}

-- a room that questions need
abbrev pub Roomy : (s room : List ℕ) → Type 0
Roomy s room = room_end s ≤ room_start s + length room

-- the keys, of a section, at the words of another's table
abbrev pub keys_listed : (section listed : ℕ) → (s tables : List ℕ) → List (List ℕ)
keys_listed section listed s tables = keys_of (numbered section) s (table_of listed s tables)
