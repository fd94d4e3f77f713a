-- The order of entries by their keys.
use Rattle.std.specs.Prelude.{ℕ, List, Bool, not}
use Rattle.format.specs.Lists.{before}
use Rattle.format.specs.Manifest.{Section}
use Rattle.format.specs.Places.{key_at}

-- the key of the entry at a does not come after that of the entry at b
abbrev pub key_at_most : Section → List ℕ → (a b : ℕ) → Bool
key_at_most e s a b = not (before (key_at e s b) (key_at e s a))
