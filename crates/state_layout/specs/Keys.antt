-- The keys of a table's entries, and marks of those that were met: a word for each, beside the table's.
use Rattle.std.specs.Prelude.{Option, Some, None, is_some, ℕ, ◌≡◌, true, not, ◌&&◌, List, ◌∷◌, map, length, ◌<◌}
use Rattle.std.specs.Coded.{×_prop, Coded-set, coded_bool}
use Rattle.format.specs.Lists.{is_in, all_different}
use Rattle.format.specs.Manifest.{Section, entry, enums}
use Rattle.format.specs.Fields.{Entry}
use Rattle.format.specs.Values.{value_at}
use Rattle.format.specs.Places.{key_at}
use Rattle.state_index.specs.Sort.{Ordered}
use Rattle.state_index.specs.Find.{key_at_most}
use Rattle.state_index.specs.Words.{Found, Ordered-prop}
use Rattle.state_layout.specs.Marks.{marks_of}

-- the keys of the entries that words list
abbrev pub keys_of : Section → (s words : List ℕ) → List (List ℕ)
keys_of e s words = map (key_at e s) words

-- they ascend
abbrev pub Ascends : (e : Section) (s words : List ℕ) → Type 0
Ascends e s words = Ordered (key_at_most e s) words × (all_different (keys_of e s words) ≡ true)

pub Ascends-prop : (e : Section) (s words : List ℕ) → IsProp (Ascends e s words)
Ascends-prop e s words = ×_prop (Ordered-prop (key_at_most e s) words) (Coded-set coded_bool (all_different (keys_of e s words)) true)

-- the enum classes that words list
abbrev pub classes_of : (s words : List ℕ) → List (Entry enums)
classes_of s words = map (value_at (entry enums) s) words

-- what `mark` does of a key: it is found or not, and its mark is set where it is; no mark changes where it is not
pub record Met (e : Section) (s words key : List ℕ) (f : Option ℕ) (old new : List ℕ) : Type 0 where
  pub found : Found e s words key f
  pub long : length new ≡ length old
  pub marks : (seen : List (List ℕ)) → old ≡ marks_of seen (keys_of e s words) → new ≡ marks_of (key ∷ seen) (keys_of e s words)
  pub same : f ≡ None → new ≡ old

-- what `mark_new` does: a key that was met before is not found
pub record MetNew (e : Section) (s words key : List ℕ) (f : Option ℕ) (old new : List ℕ) : Type 0 where
  pub at : (i : ℕ) → f ≡ Some i → i < length words
  pub long : length new ≡ length old
  pub answer : (seen : List (List ℕ)) → old ≡ marks_of seen (keys_of e s words) → is_some f ≡ (is_in key (keys_of e s words) && not (is_in key seen))
  pub next : (i : ℕ) → f ≡ Some i → (seen : List (List ℕ)) → old ≡ marks_of seen (keys_of e s words) → new ≡ marks_of (key ∷ seen) (keys_of e s words)
