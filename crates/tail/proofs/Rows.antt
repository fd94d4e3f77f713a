-- Document 01, "Entries checked", on tails, and the tails of Cases.antt: a table, with one theorem over all rows. The answers are those of the Rust.
use Prim.Native.Nat.{ℕ, ◌-◌, ◌^◌}
use mathlib.Core.Path.{◌≡◌, refl}
use mathlib.Core.List.{List, [], ◌∷◌, ◌++◌}
use lib.ListN.{replicate}
use Rattle.state.specs.Outcome.{refuses}
use Rattle.format.specs.Format.{scan}
use Rattle.format.specs.Admits.{All}
use Rattle.format.specs.Places.{section_starts, manifest_starts}
use Rattle.format.proofs.Lists.{told_each}
use Rattle.questions.specs.Portability.{target_bound_classes}
use Rattle.questions.proofs.Cases.{Answered, accepts, answered, same_answer, same-answer, zeros, hex}
use Rattle.questions.proofs.Rows.{opened}
use Rattle.tail.specs.Tail.{words, flags, value_key, value_of, type_is, value_answer, values_answer, read_words, read_flags, read_tail}
use Rattle.tail.specs.Answers.{judge_tail, decode_tail, tail_index}
use Rattle.tail.proofs.Cases.{Row, row_at, accepted_rows, value_rows, word_rows, field_rows, manifest_rows}

-- "P: portable, one authored block with empty key and class, stateful, revision 1, length 1, no lists, scheduled, slot at 0"
abbrev P : List ℕ
P = hex "00 . 0100000000..01010000000100000000000000... . . 0100000000. . . 0100000000...0100000000000000 . . ."

-- "tail of no values, word count 1, one word, flags 0"
abbrev one_word : List ℕ
one_word = zeros 4 ++ (1 ∷ zeros 19)

abbrev entry_rows : List Row
entry_rows =
    -- "P with tail of no values, word count 1, one word, flags 0 (24 bytes): accepted"
    row_at 0 2 P one_word accepts
    -- "Word count 0, no word (16 bytes): 37 at 109"
    ∷ row_at 0 2 P (zeros 16) (refuses 37 109)
    -- "Its base is the manifest's base plus the manifest's length"; offsets stop at 2^64 − 1
    ∷ row_at 7 2 P (zeros 16) (refuses 37 116)
    ∷ row_at (2 ^ 64 - 110) 2 P [] (refuses 3 (2 ^ 64 - 5))
    ∷ row_at (2 ^ 64 - 50) 2 P (zeros 16) (refuses 37 (2 ^ 64 - 1))
    ∷ row_at (2 ^ 64 - 1) 2 P (zeros 16) (refuses 37 (2 ^ 64 - 1))
    ∷ row_at (2 ^ 64 - 1) 2 P one_word accepts
    -- index words: "n is the manifest's length"
    ∷ record { manifest = P; tail = one_word; base = 7; revision = 2; index = 67; answer = refuses 2 0 }
    ∷ record { manifest = P; tail = one_word; base = 7; revision = 2; index = 68; answer = accepts }
    ∷ []

-- ---- all of them
abbrev rows : List Row
rows = entry_rows ++ accepted_rows ++ value_rows ++ word_rows ++ field_rows ++ manifest_rows

-- what a call answers
abbrev answer_to : Row → Answered
answer_to r = answered (decode_tail target_bound_classes r.manifest r.tail r.base r.revision (replicate r.index 0))

-- to unfold this is to unfold all that an answer and an index are computed by
unfoldable computed : Unit {0}
unfolding opened words flags value_key value_of type_is value_answer values_answer read_words read_flags read_tail judge_tail decode_tail tail_index manifest_starts section_starts scan
computed = tt

-- each row is answered as it says
rows-hold : All (λ (r : Row). answer_to r ≡ r.answer) rows
unfolding computed
rows-hold = told_each same_answer same-answer answer_to (λ (r : Row). r.answer) rows refl

-- ---- the index at the end, where all its words were 7: the starts and zeros, cleared, or untouched
abbrev left_of : (index : ℕ) → (tail : List ℕ) → List ℕ
left_of n t = tail_index target_bound_classes P t 2 (replicate n 7)

abbrev starts : List ℕ
starts = 0 ∷ 1 ∷ 5 ∷ 43 ∷ 47 ∷ 51 ∷ 60 ∷ 64 ∷ 68 ∷ 93 ∷ 97 ∷ 101 ∷ []

index-left :
    (left_of 68 one_word ≡ starts ++ replicate 56 0)
    × (left_of 70 one_word ≡ starts ++ replicate 58 0)
    × (left_of 68 (zeros 16) ≡ replicate 68 0)
    × (left_of 67 one_word ≡ replicate 67 7)
unfolding computed
index-left = (refl, refl, refl, refl)
