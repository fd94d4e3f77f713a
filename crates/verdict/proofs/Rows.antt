-- Document 01, "Entries checked", on verdicts, and the pairs of Cases.antt: a table, with one theorem over all rows.
use Prim.Native.Nat.{ℕ, ◌-◌, ◌^◌}
use mathlib.Core.Path.{◌≡◌, refl}
use mathlib.Core.List.{List, [], ◌∷◌, ◌++◌}
use lib.ListN.{length, replicate}
use Rattle.std.specs.Prelude.{Result, Ok}
use Rattle.state.specs.declared.SideRefusal.{SideRefusal}
use Rattle.order.specs.Lex.{agreeing}
use Rattle.format.specs.Format.{scan}
use Rattle.format.specs.Admits.{All}
use Rattle.format.specs.Places.{section_starts, manifest_starts}
use Rattle.format.specs.Reading.{index_words}
use Rattle.format.proofs.Lists.{alike-each}
use Rattle.questions.specs.Portability.{target_bound_classes}
use Rattle.questions.specs.Answers.{decoded_index}
use Rattle.questions.proofs.Cases.{zeros, hex}
use Rattle.questions.proofs.Rows.{opened}
use Rattle.verdict.specs.Verdict.{Agreement, compatible, differs, field, along, head_verdict, param_verdict, params_verdict, ports_verdict, block_verdict, over, verdict}
use Rattle.verdict.specs.Answers.{compare_manifests, target_index}
use Rattle.verdict.proofs.Cases.{Given, Pair, snapshot_refused, target_refused, given_at, pair_rows}

-- "P: portable, one authored block with empty key and class, stateful, revision 1, length 1, no lists, scheduled, slot at 0"
abbrev P : List ℕ
P = hex "00 . 0100000000..01010000000100000000000000... . . 0100000000. . . 0100000000...0100000000000000 . . ."

abbrev pair_at : Given → Given → Result Agreement SideRefusal → Pair
pair_at s t r = record { snapshot = s; target = t; answer = r }

abbrev short : Given → Given
short s = record { bytes = s.bytes; base = s.base; revision = s.revision; lacking = 1 }

abbrev entry_rows : List Pair
entry_rows =
    -- "45 zeros against P: section 3, part 13, places 0 and 0"
    pair_at (given_at 0 2 (zeros 45)) (given_at 0 2 P) (Ok (differs 3 13 0 0))
    ∷ pair_at (given_at 0 2 P) (given_at 0 2 (zeros 45)) (Ok (differs 3 13 0 0))
    -- "each with its own base, revision and index"
    ∷ pair_at (given_at 7 2 P) (given_at (2 ^ 64 - 1) 1 P) (Ok compatible)
    ∷ pair_at (given_at 0 2 (zeros 45)) (given_at 0 1 (hex "010100000061010000006f . . . . . . . . . . .")) (Ok (differs 1 0 0 0))
    -- "a refusal says which side", and the snapshot's manifest is read first
    ∷ pair_at (given_at 7 2 (zeros 44)) (given_at 0 2 P) (snapshot_refused 3 48)
    ∷ pair_at (given_at 7 2 P) (given_at 9 2 (zeros 44)) (target_refused 3 50)
    ∷ pair_at (given_at 0 2 (zeros 44)) (given_at 0 2 (zeros 46)) (snapshot_refused 3 41)
    ∷ pair_at (short (given_at 5 2 (zeros 45))) (given_at 0 2 (zeros 44)) (snapshot_refused 2 0)
    ∷ pair_at (given_at 5 2 (zeros 45)) (short (given_at 5 2 P)) (target_refused 2 0)
    ∷ []

abbrev rows : List Pair
rows = entry_rows ++ pair_rows

-- an index for a side
abbrev index_for : Given → List ℕ
index_for s = replicate (index_words (length s.bytes) - s.lacking) 0

-- what a call answers
abbrev answer_to : Pair → Result Agreement SideRefusal
answer_to r =
    let s = r.snapshot in
    let t = r.target in
    compare_manifests target_bound_classes s.bytes s.base s.revision (index_for s) t.bytes t.base t.revision (index_for t)

-- each row is answered as it says
rows-hold : All (λ (r : Pair). answer_to r ≡ r.answer) rows
unfolding opened field along head_verdict param_verdict params_verdict ports_verdict block_verdict over verdict compare_manifests
rows-hold = alike-each answer_to (λ (r : Pair). r.answer) rows refl

-- ---- the target's index at the end, where all its words were 7: untouched, cleared, or the starts and zeros
abbrev left_of : Given → Given → List ℕ
left_of s t = target_index target_bound_classes s.bytes s.base s.revision (index_for s) t.bytes t.base t.revision (replicate (length (index_for t)) 7)

abbrev starts : List ℕ
starts = 0 ∷ 1 ∷ 5 ∷ 9 ∷ 13 ∷ 17 ∷ 21 ∷ 25 ∷ 29 ∷ 33 ∷ 37 ∷ 41 ∷ []

target_left :
    (left_of (given_at 0 2 (zeros 44)) (given_at 0 2 (zeros 45)) ≡ replicate 38 7)
    × (left_of (given_at 0 2 P) (given_at 0 2 (zeros 44)) ≡ replicate 38 0)
    × (left_of (given_at 0 2 P) (short (given_at 0 2 (zeros 45))) ≡ replicate 37 7)
    × (left_of (given_at 0 2 P) (given_at 0 2 (zeros 45)) ≡ starts ++ replicate 26 0)
unfolding opened target_index decoded_index manifest_starts section_starts scan
target_left = (refl, refl, refl, refl)

-- "First differing byte: 5"
first-differing : agreeing (zeros 45) P ≡ 5
unfolding opened agreeing
first-differing = refl
