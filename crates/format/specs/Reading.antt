-- Document 01, questions 1 to 10: a manifest as the value of its bytes.
use Rattle.std.specs.Prelude.{ℕ, ◌+◌, ◌/◌, List, length, leb, eqb}
use Rattle.state.specs.Outcome.{Outcome, got, bind, ask}
use Rattle.state_wire.specs.Fields.{max_snapshot_bytes}
use Rattle.format.specs.Format.{El, read}
use Rattle.format.specs.Manifest.{manifest}

-- "n ÷ 2 rounded down, plus 16 words"
abbrev pub index_words : (n : ℕ) → ℕ
index_words n = n / 2 + 16

module _ (limit : ℕ) where
  -- questions 3 to 9, then "10. Nothing left over? 10, at the first byte left"
  unfoldable pub read_sections : List ℕ → Outcome (El manifest)
  read_sections s = bind (read limit manifest s 0) (λ v n. ask (eqb n (length s)) 10 n (got v n))

  -- "1. n at most 67,108,864? 1"; "2. Index at least n ÷ 2 rounded down, plus 16 words? 2"; both stand at 0
  unfoldable pub read_manifest : List ℕ → (index : ℕ) → Outcome (El manifest)
  read_manifest s m = ask (leb (length s) max_snapshot_bytes) 1 0 (ask (leb (index_words (length s)) m) 2 0 (read_sections s))
