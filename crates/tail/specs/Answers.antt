-- The whole answer of a call on a manifest and its tail, and what it leaves of the lent index.
use Rattle.std.specs.Prelude.{ℕ, ◌+◌, List, length, leb}
use Rattle.state.specs.Outcome.{Outcome, got, refused, bind, ask}
use Rattle.state_wire.specs.Fields.{max_snapshot_bytes}
use Rattle.format.specs.Format.{El}
use Rattle.format.specs.Manifest.{manifest}
use Rattle.questions.specs.Answers.{Decoded, judge, decoded_of, index_after}
use Rattle.tail.specs.Tail.{read_tail}

-- "Its base is the manifest's base plus the manifest's length": positions of the tail count on from the manifest's n bytes
abbrev pub behind : (n : ℕ) → Outcome (El manifest) → Outcome (El manifest)
behind n (got m p) = got m (n + p)
behind n (refused q p) = refused q (n + p)

-- "A call on a tail first reads its manifest; its question 1 tests both lengths summed, elsewhere n is the manifest's length"
unfoldable pub judge_tail : (bound : List (List ℕ)) → (revision : ℕ) → (s t : List ℕ) → (index : ℕ) → Outcome (El manifest)
judge_tail bound revision s t w =
    ask (leb (length s + length t) max_snapshot_bytes) 1 0 (bind (judge bound revision s w) (λ m n. behind n (read_tail m t)))

-- the answer of `decode_tail`, and the index at its end: as of a manifest
unfoldable pub decode_tail : (bound : List (List ℕ)) → (s t : List ℕ) → (base revision : ℕ) → (index : List ℕ) → Decoded
decode_tail bound s t base revision index = decoded_of base s (judge_tail bound revision s t (length index))

unfoldable pub tail_index : (bound : List (List ℕ)) → (s t : List ℕ) → (revision : ℕ) → (index : List ℕ) → List ℕ
tail_index bound s t revision index = index_after s index (judge_tail bound revision s t (length index))
