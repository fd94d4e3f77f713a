-- What is asked of the entries at positions of the bytes: that the connectors they name are known, and of a direction.
use Rattle.std.specs.Prelude.{ℕ, Bool, ◌&&◌, List, get_or, eqb}
use Rattle.format.specs.Lists.{is_in}
use Rattle.format.specs.Format.{text}
use Rattle.format.specs.Keys.{block_key, connector_key}
use Rattle.format.specs.Manifest.{connectors}
use Rattle.format.specs.Places.{past, key_at}

module _ (s : List ℕ) where
  -- the connector key at a position is of a direction: 0 in, 1 out
  unfoldable pub of_way : (way p : ℕ) → Bool
  of_way way p = eqb (get_or s (past block_key s p) 0) way

  module _ (names : List (List ℕ)) where
    unfoldable pub known_at : (p : ℕ) → Bool
    known_at p = is_in (key_at connectors s p) names

    unfoldable pub directed_at : (way p : ℕ) → Bool
    directed_at way p = of_way way p && known_at p

    -- question 17 of a connection
    unfoldable pub joins_at : (p : ℕ) → Bool
    joins_at p = directed_at 1 p && directed_at 0 (past connector_key s p)

    -- question 20 of a driver
    unfoldable pub drives_at : (p : ℕ) → Bool
    drives_at p = known_at p && known_at (past connector_key s p)

    -- question 26 of a boundary output: the source behind its name
    unfoldable pub source_at : (p : ℕ) → Bool
    source_at p = directed_at 1 (past text s p)
