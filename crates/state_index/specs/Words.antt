-- What is found among words, a table's slice of the lent index: each says where an entry starts.
use Rattle.std.specs.Prelude.{Option, Some, None, ℕ, ◌<◌, List, [], ◌∷◌, map, Bool, true, false, ◌≡◌, length, get_or}
use Rattle.std.specs.Coded.{Coded-set, coded_bool, ×_prop, Unit-prop}
use Rattle.format.specs.Lists.{is_in}
use Rattle.format.specs.Manifest.{Section}
use Rattle.format.specs.Places.{key_at}
use Rattle.state_index.specs.Sort.{Below, Ordered}

-- what a search for a key among the entries at words finds: the place of a word whose entry has it, or that none has
pub record Found (e : Section) (s words key : List ℕ) (f : Option ℕ) : Type 0 where
  pub at : (i : ℕ) → f ≡ Some i → (i < length words) × (key_at e s (get_or words i 0) ≡ key)
  pub nothing : f ≡ None → is_in key (map (key_at e s) words) ≡ false

-- words are in order in one way at most, so a struct may keep that they are
Below-prop : (le : ℕ → ℕ → Bool) (x : ℕ) (ws : List ℕ) → IsProp (Below le x ws)
Below-prop le x [] = Unit-prop
Below-prop le x (y ∷ ws) = ×_prop (Coded-set coded_bool (le x y) true) (Below-prop le x ws)

pub Ordered-prop : (le : ℕ → ℕ → Bool) (ws : List ℕ) → IsProp (Ordered le ws)
Ordered-prop le [] = Unit-prop
Ordered-prop le (x ∷ ws) = ×_prop (Below-prop le x ws) (Ordered-prop le ws)
