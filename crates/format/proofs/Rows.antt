-- Document 01, "Entries checked", as far as questions 1 to 10 decide them, and what the wrong turns would answer otherwise: a table, with one
-- theorem over all rows. An entry that the document answers by a later question passes these ten.
use Prim.Native.Nat.{ℕ, ◌<◌}
use mathlib.Core.Path.{◌≡◌, refl}
use mathlib.Core.List.{List, [], ◌∷◌, ◌++◌}
use lib.ListN.{length, replicate}
use borrow.Author.Tests.{lt-leb}
use Rattle.std.specs.Prelude.{Ok}
use Rattle.state.specs.Bytes.{number_of}
use Rattle.state.specs.Outcome.{refused, step_of, Stepped, refuses}
use Rattle.utf8.specs.Valid.{valid_up_to}
use Rattle.order.specs.Lex.{lex_compare}
use Rattle.state_wire.specs.Fields.{read_span, read_number, read_tag, read_count, bounded_count, read_text, max_snapshot_bytes}
use Rattle.format.specs.Lists.{is_in, all_different}
use Rattle.format.specs.Format.{read}
use Rattle.format.specs.Admits.{All}
use Rattle.format.specs.Keys.{block_key, connector_key}
use Rattle.format.specs.Manifest.{value_type, value, members, params, connector_keys, block_head, block_rest, connector_rest, slot_rest, input_rest, portability, manifest}
use Rattle.format.specs.Reading.{index_words, read_sections, read_manifest}
use Rattle.format.proofs.Lists.{alike-each}

-- ---- bytes
abbrev zeros : ℕ → List ℕ
zeros n = replicate n 0

-- numbers below 256
abbrev u32 : ℕ → List ℕ
u32 n = n ∷ zeros 3

abbrev u64 : ℕ → List ℕ
u64 n = n ∷ zeros 7

-- "a", "aa", "b" as they are written, and the letter a 256 times
abbrev a : List ℕ
a = u32 1 ++ 97 ∷ []

abbrev aa : List ℕ
aa = u32 2 ++ 97 ∷ 97 ∷ []

abbrev b : List ℕ
b = u32 1 ++ 98 ∷ []

abbrev a256 : List ℕ
a256 = 0 ∷ 1 ∷ 0 ∷ 0 ∷ replicate 256 97

-- "P: portable, one authored block with empty key and class, stateful, revision 1, length 1, no lists, scheduled, slot at 0: 105 bytes"
abbrev p : (kind offset : ℕ) → List ℕ
p kind offset =
    zeros 5 ++ u32 1 ++ zeros 9 ++ (kind ∷ []) ++ u32 1 ++ u64 1 ++ zeros 20 ++ u32 1 ++ zeros 13 ++ u32 1 ++ zeros 5 ++ u64 offset ++ u64 1 ++ zeros 12

-- a manifest with two entries in one list: classes, slots, blocks and scheduled blocks by name, a class's members, a block's Boolean
-- parameters, input definitions; connectors, drivers and connections by the bytes of a port index
abbrev classes : (x y : List ℕ) → List ℕ
classes x y = zeros 1 ++ u32 2 ++ x ++ zeros 4 ++ y ++ zeros 44

abbrev two_members : (x y : List ℕ) → List ℕ
two_members x y = zeros 1 ++ u32 1 ++ zeros 4 ++ u32 2 ++ x ++ y ++ zeros 40

abbrev two_blocks : (x y : List ℕ) → List ℕ
two_blocks x y = zeros 5 ++ u32 2 ++ 0 ∷ x ++ zeros 29 ++ 0 ∷ y ++ zeros 65

abbrev parameters : (x y : List ℕ) → List ℕ
parameters x y = zeros 5 ++ u32 1 ++ zeros 22 ++ u32 2 ++ x ++ 2 ∷ 0 ∷ y ++ 2 ∷ zeros 45

abbrev two_connectors : (x y : List ℕ) → List ℕ
two_connectors x y = zeros 9 ++ u32 2 ++ zeros 6 ++ x ++ zeros 17 ++ y ++ zeros 43

abbrev two_connections : (x y z w : List ℕ) → List ℕ
two_connections x y z w = zeros 13 ++ u32 2 ++ zeros 6 ++ x ++ zeros 6 ++ y ++ zeros 6 ++ z ++ zeros 6 ++ w ++ zeros 28

abbrev scheduled : (x y : List ℕ) → List ℕ
scheduled x y = zeros 17 ++ u32 2 ++ 0 ∷ x ++ 0 ∷ y ++ zeros 24

abbrev drivers : (x y : List ℕ) → List ℕ
drivers x y = zeros 25 ++ u32 2 ++ zeros 6 ++ x ++ zeros 16 ++ y ++ zeros 26

abbrev slots : (x y : List ℕ) → List ℕ
slots x y = zeros 29 ++ u32 2 ++ 0 ∷ x ++ zeros 16 ++ 0 ∷ y ++ zeros 28

abbrev inputs : (x y : List ℕ) → List ℕ
inputs x y = zeros 41 ++ u32 2 ++ x ++ zeros 3 ++ y ++ zeros 3

abbrev port256 : List ℕ
port256 = 0 ∷ 1 ∷ 0 ∷ 0 ∷ []

-- ---- the table
record Row : Type 0 where
  bytes : List ℕ
  index : ℕ
  answer : Stepped

-- with an index that is just long enough
abbrev row : List ℕ → Stepped → Row
row s r = record { bytes = s; index = index_words (length s); answer = r }

abbrev rows : List Row
rows =
    row [] (refuses 3 0)
    ∷ row (2 ∷ []) (refuses 6 1)
    ∷ row (zeros 44) (refuses 3 41)
    ∷ row (zeros 45) (Ok 45)
    ∷ row (zeros 46) (refuses 10 45)
    ∷ row (0 ∷ 1 ∷ 0 ∷ 0 ∷ 0 ∷ zeros 7) (refuses 7 5)
    ∷ row (0 ∷ 1 ∷ 0 ∷ 0 ∷ 0 ∷ zeros 8) (refuses 3 13)
    ∷ row (0 ∷ 1 ∷ 0 ∷ 0 ∷ 0 ∷ zeros 48) (Ok 53)  -- 11 follows
    ∷ row (1 ∷ zeros 52) (Ok 53)  -- 31 follows, or 32
    ∷ row (p 1 0) (Ok 105)
    ∷ row (p 1 1) (Ok 105)  -- 24 follows
    ∷ row (p 0 0) (Ok 105)  -- 12 follows
    ∷ record { bytes = zeros 45; index = 37; answer = refuses 2 0 }
    ∷ record { bytes = zeros 45; index = 38; answer = Ok 45 }
    ∷ record { bytes = []; index = 15; answer = refuses 2 0 }
    -- question 4: arch of length 67,108,865, and of 67,108,864
    ∷ row (1 ∷ 1 ∷ 0 ∷ 0 ∷ 4 ∷ []) (refuses 4 1)
    ∷ row (1 ∷ 0 ∷ 0 ∷ 0 ∷ 4 ∷ []) (refuses 3 5)
    -- question 5
    ∷ row (1 ∷ u32 1 ++ 255 ∷ []) (refuses 5 5)
    ∷ row (1 ∷ u32 2 ++ 97 ∷ 255 ∷ []) (refuses 5 6)
    -- question 6: "Block-key tag 2 is always refused"
    ∷ row (zeros 5 ++ u32 1 ++ 2 ∷ zeros 33) (refuses 6 10)
    -- question 7: of each list, a count with one byte too few after it, and with the least: it goes on
    ∷ row (zeros 1 ++ u32 1 ++ zeros 4 ++ u32 1 ++ zeros 3) (refuses 7 13)
    ∷ row (zeros 1 ++ u32 1 ++ zeros 4 ++ u32 1 ++ zeros 4) (refuses 3 17)
    ∷ row (zeros 5 ++ u32 1 ++ zeros 33) (refuses 7 9)
    ∷ row (zeros 5 ++ u32 1 ++ zeros 34) (refuses 3 43)
    ∷ row (zeros 5 ++ u32 1 ++ zeros 22 ++ u32 2 ++ zeros 4 ++ 2 ∷ zeros 6) (refuses 7 35)
    ∷ row (zeros 5 ++ u32 1 ++ zeros 22 ++ u32 2 ++ zeros 4 ++ 2 ∷ zeros 7) (refuses 3 46)
    ∷ row (zeros 5 ++ u32 1 ++ zeros 26 ++ u32 1 ++ zeros 9) (refuses 7 39)
    ∷ row (zeros 5 ++ u32 1 ++ zeros 26 ++ u32 1 ++ zeros 10) (refuses 3 49)
    ∷ row (zeros 5 ++ u32 1 ++ zeros 30 ++ u32 1 ++ zeros 9) (refuses 7 43)
    ∷ row (zeros 5 ++ u32 1 ++ zeros 30 ++ u32 1 ++ zeros 10) (refuses 3 53)
    ∷ row (zeros 13 ++ u32 1 ++ zeros 19) (refuses 7 17)
    ∷ row (zeros 13 ++ u32 1 ++ zeros 20) (refuses 3 37)
    ∷ row (zeros 17 ++ u32 1 ++ zeros 4) (refuses 7 21)
    ∷ row (zeros 17 ++ u32 1 ++ zeros 5) (refuses 3 26)
    ∷ row (zeros 21 ++ u32 1 ++ zeros 9) (refuses 7 25)
    ∷ row (zeros 21 ++ u32 1 ++ zeros 10) (refuses 3 35)
    ∷ row (zeros 25 ++ u32 1 ++ zeros 19) (refuses 7 29)
    ∷ row (zeros 25 ++ u32 1 ++ zeros 20) (refuses 3 49)
    ∷ row (zeros 29 ++ u32 1 ++ zeros 20) (refuses 7 33)
    ∷ row (zeros 29 ++ u32 1 ++ zeros 21) (refuses 3 54)
    ∷ row (zeros 33 ++ u32 1 ++ zeros 9) (refuses 7 37)
    ∷ row (zeros 33 ++ u32 1 ++ zeros 10) (refuses 3 47)
    ∷ row (zeros 37 ++ u32 1 ++ zeros 13) (refuses 7 41)
    ∷ row (zeros 37 ++ u32 1 ++ zeros 14) (refuses 3 55)
    ∷ row (zeros 41 ++ u32 1 ++ zeros 6) (refuses 7 45)
    ∷ row (zeros 41 ++ u32 1 ++ zeros 7) (Ok 52)
    -- "A connector really needs 21; 19 is what the Rust tests"
    ∷ row (zeros 9 ++ u32 1 ++ zeros 18) (refuses 7 13)
    ∷ row (zeros 9 ++ u32 1 ++ zeros 19) (refuses 3 32)
    ∷ row (zeros 9 ++ u32 1 ++ zeros 20) (refuses 3 33)
    ∷ row (zeros 9 ++ u32 1 ++ zeros 21) (refuses 3 34)
    ∷ row (zeros 9 ++ u32 1 ++ zeros 53) (Ok 66)
    ∷ row (zeros 9 ++ u32 2 ++ zeros 37) (refuses 7 13)
    ∷ row (zeros 9 ++ u32 2 ++ zeros 38) (refuses 3 48)
    ∷ row (zeros 9 ++ u32 2 ++ zeros 41) (refuses 3 54)
    -- question 8
    ∷ row (two_members a a) (refuses 8 23)
    ∷ row (two_members b a) (Ok 63)
    -- question 9, plain: "aa" before "b"; after the entry, of input definitions after the path
    ∷ row (classes aa b) (Ok 64)
    ∷ row (classes b aa) (refuses 9 24)
    ∷ row (classes a a) (refuses 9 23)
    ∷ row (parameters aa b) (Ok 94)
    ∷ row (parameters b aa) (refuses 9 50)
    ∷ row (parameters a a) (refuses 9 49)
    ∷ row (inputs aa b) (Ok 62)
    ∷ row (inputs b aa) (refuses 9 59)
    ∷ row (inputs a a) (refuses 9 58)
    -- wire: "b" before "aa", "length 256 (00 01 00 00) comes before length 1", "port 256 comes before port 1"
    ∷ row (two_blocks b aa) (Ok 116)
    ∷ row (two_blocks aa b) (refuses 9 80)
    ∷ row (two_blocks a a) (refuses 9 79)
    ∷ row (two_blocks a256 a) (Ok 370)
    ∷ row (two_blocks a a256) (refuses 9 334)
    ∷ row (slots b aa) (Ok 90)
    ∷ row (slots aa b) (refuses 9 78)
    ∷ row (slots a a) (refuses 9 77)
    ∷ row (slots a256 a) (Ok 344)
    ∷ row (slots a a256) (refuses 9 332)
    ∷ row (two_connectors port256 (u32 1)) (Ok 87)
    ∷ row (two_connectors (u32 1) port256) (refuses 9 55)
    ∷ row (two_connectors (u32 1) (u32 1)) (refuses 9 55)
    ∷ row (drivers port256 (u32 1)) (Ok 85)
    ∷ row (drivers (u32 1) port256) (refuses 9 69)
    ∷ row (drivers (u32 1) (u32 1)) (refuses 9 69)
    -- "section 5 by both keys"
    ∷ row (two_connections (u32 1) port256 (u32 1) (u32 1)) (Ok 85)
    ∷ row (two_connections (u32 1) (u32 1) (u32 1) port256) (refuses 9 57)
    ∷ row (two_connections (u32 1) (u32 0) (u32 0) (u32 1)) (refuses 9 57)
    -- the schedule is in any order, here twice the same: 18 follows
    ∷ row (scheduled b a) (Ok 57)
    ∷ row (scheduled a a) (Ok 57)
    ∷ []

-- questions 1 to 10 answer each row as it says
rows-hold : All (λ (r : Row). step_of (read_manifest max_snapshot_bytes r.bytes r.index) ≡ r.answer) rows
unfolding read_manifest read_sections read read_span read_number read_tag read_count bounded_count read_text valid_up_to number_of block_key connector_key value_type value members params connector_keys block_head block_rest connector_rest slot_rest input_rest portability manifest is_in all_different lex_compare
rows-hold = alike-each (λ (r : Row). step_of (read_manifest max_snapshot_bytes r.bytes r.index)) (λ (r : Row). r.answer) rows refl

-- question 1, before all others, of any bytes that are too many
too_many : (limit : ℕ) (s : List ℕ) (index : ℕ) → max_snapshot_bytes < length s → read_manifest limit s index ≡ refused 1 0
unfolding read_manifest
too_many limit s index h = rw (lt-leb (length s) max_snapshot_bytes h)
