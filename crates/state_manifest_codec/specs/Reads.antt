-- What `read_manifest` promises of its answer and of the lent index.
use Rattle.std.specs.Prelude.{ℕ, ◌≤◌, ◌≡◌, List, ◌++◌, length, take, drop, Ok}
use Rattle.state.specs.Outcome.{step_of, Stepped, refuses}
use Rattle.state_wire.specs.Fields.{max_snapshot_bytes}
use Rattle.format.specs.Places.{manifest_starts, manifest_entries}
use Rattle.format.specs.Reading.{index_words, read_manifest}

pub record Reads (s : List ℕ) (r : Stepped) (old new : List ℕ) : Type 0 where
  -- document 01, questions 1 to 10
  pub is : r ≡ step_of (read_manifest max_snapshot_bytes s (length old))
  -- where all say yes, the index holds where the sections start, and then where their entries start, section by section
  pub starts : (n : ℕ) → r ≡ Ok n → take (length (manifest_starts max_snapshot_bytes s ++ manifest_entries max_snapshot_bytes s)) new ≡ manifest_starts max_snapshot_bytes s ++ manifest_entries max_snapshot_bytes s
  -- the words from n ÷ 2 + 16 on are as they were; after refusals 1 and 2 all are
  pub beyond : drop (index_words (length s)) new ≡ drop (index_words (length s)) old
  pub untouched : (q p : ℕ) → r ≡ refuses q p → q ≤ 2 → new ≡ old
  pub long : length new ≡ length old
