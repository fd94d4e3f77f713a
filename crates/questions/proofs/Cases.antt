-- Rows of the table in Rows.antt: manifests with the Rust's answers, for each of the questions 11 to 32. tools/question_rows.py prints the lists.
use Prim.Native.Nat.{ℕ, ◌+◌, ◌*◌, ◌-◌}
use Prim.Native.String.{String}
use mathlib.Core.Path.{◌≡◌, refl, ap₂}
use mathlib.Core.Bool.{Bool, true, false, cond, ◌&&◌, false≢true}
use mathlib.Core.List.{List, [], ◌∷◌, ◌++◌}
use lib.ListN.{length, replicate}
use lib.Dec.{ltb, eqb}
use borrow.Author.Tests.{eqb-true}
use Rattle.std.proofs.lemmas.Bool.{and_parts as both}
use Rattle.state.specs.Bytes.{bytes_of}
use Rattle.std.specs.Prelude.{Result, Ok, Err}
use Rattle.state.specs.Outcome.{refuses}
use Rattle.state.specs.declared.Refusal.{Refusal}
use Rattle.format.specs.Reading.{index_words}
use Rattle.questions.specs.Sets.{gather}
use Rattle.questions.specs.Portability.{ascii}

-- ---- bytes
abbrev pub zeros : ℕ → List ℕ
zeros n = replicate n 0

-- hexadecimal digits by their codes; a dot is four zero bytes, a space nothing
unfoldable pub digits : ℕ → List ℕ
digits c = cond (eqb c 46) (zeros 8) (cond (eqb c 32) [] (cond (ltb c 97) (c - 48) (c - 87) ∷ []))

unfoldable pub pairs : List ℕ → List ℕ
pairs [] = []
pairs (d ∷ []) = []
pairs (d ∷ (e ∷ s)) = (16 * d + e) ∷ pairs s

-- two digits for each byte
unfoldable pub hex : String → List ℕ
hex s = pairs (gather digits (ascii s))

-- ---- rows
-- acceptance, whatever comes with it, or the refusal
abbrev pub Answered : Type 0
Answered = Result Unit (Refusal ℕ)

abbrev pub accepts : Answered
accepts = Ok tt

abbrev pub answered : {A : Type 0} → Result A (Refusal ℕ) → Answered
answered (Ok x) = Ok tt
answered (Err d) = Err d

-- whether two are one
abbrev pub same_answer : Answered → Answered → Bool
same_answer (Ok x) (Ok y) = true
same_answer (Ok x) (Err e) = false
same_answer (Err d) (Ok y) = false
same_answer (Err d) (Err e) = eqb d.question.0 e.question.0 && eqb d.at e.at

pub same-answer : (a b : Answered) → same_answer a b ≡ true → a ≡ b
same-answer (Ok x) (Ok y) h = refl
same-answer (Ok x) (Err e) h = absurd (false≢true h)
same-answer (Err d) (Ok y) h = absurd (false≢true h)
same-answer (Err d) (Err e) h = let p = both _ _ h in ap₂ (λ (q a : ℕ). refuses q a) (eqb-true _ _ p.0) (eqb-true _ _ p.1)

pub record Row : Type 0 where
  pub bytes : List ℕ
  pub base : ℕ
  pub revision : ℕ
  pub index : ℕ
  pub answer : Answered

-- with an index that is just long enough
abbrev pub row_at : (base revision : ℕ) → List ℕ → Answered → Row
row_at base revision s a = record { bytes = s; base = base; revision = revision; index = index_words (length s); answer = a }

abbrev pub row : List ℕ → Answered → Row
row = row_at 0 2

-- a manifest that is accepted; one that a question refuses, at its end
abbrev pub accepted : String → Row
accepted s = row (hex s) accepts

abbrev pub refused_by : (question : ℕ) → String → Row
refused_by q s = row (hex s) (refuses q (length (hex s)))

abbrev pub revision1 : Row → Row
revision1 r = row_at 0 1 r.bytes r.answer

-- arch, os and a block of this class
abbrev pub bound_by : String → Row
bound_by class = row (hex "010100000061010000006f . 0100000000." ++ (bytes_of 4 (length (ascii class)) ++ (ascii class ++ hex "00...... . . 0100000000. . . . . . ."))) accepts

-- ---- the rows
abbrev pub accepted_rows : List Row
accepted_rows =
    -- ordinal just the number of members
    accepted "00 01000000010000004502000000.010000006d 0100000000..00...01000000.04010000004502000000.. . . 0100000000. . . . . . ."
    -- an output connected to an input
    ∷ accepted "00 . 0100000000..00....0100000000.00.0100000000.01. 0200000000.00...00000000.01...000000 0100000000.01.00.00. 0100000000. 0200000000.00.00.01. 0200000000.00.00.00.00.01.00.01. . . . ."
    -- a connector driven by an input
    ∷ accepted "00 . 0100000000..00....0100000000.00.0100000000.01. 0200000000.00...00000000.01...000000 . 0100000000. 0200000000.00.00.01. 0200000000.00.00.00.00.01.00.00. . . . ."
    -- the first block's slot after the second's
    ∷ accepted "00 . 0200000000..01010000000100000000000000...000100000062.01010000000200000000000000... . . 0200000000.000100000062 . . 0200000000.02000000000000000100000000000000000100000062..0200000000000000 . . ."
    -- an external input
    ∷ accepted "00 . 0100000000..00....0100000000.00.. 0100000000.00...000000 . 0100000000. 0100000000.00. 0100000000.00.00.00. . 0100000000.00. . 01000000.000000"
    -- a boundary output
    ∷ accepted "00 . 0100000000..00.....0100000000.01. 0100000000.01...000000 . 0100000000. 0100000000.01. 0100000000.01.00.01. . . 01000000.00.01. ."
    -- one path and type, two external inputs
    ∷ accepted "00 . 0100000000..00....0200000000.00.00.0001000000. 0200000000.00...00000000.0001000000..000000 . 0100000000. 0200000000.00.00.0001000000 0200000000.00.00.00.00.000100000000.0001000000 . 0200000000.00.00.0001000000 . 01000000.000000"
    -- two paths and two types, both external
    ∷ accepted "00 . 0100000000..00....0200000000.00.00.0001000000. 0200000000.00...00000000.00010000000100000070.010000 . 0100000000. 0200000000.00.00.0001000000 0200000000.00.00.00.00.000100000000.0001000000 . 0200000000.00.00.0001000000 . 02000000.0000000100000070010000"
    -- one path and two types, one of them external
    ∷ accepted "00 . 0100000000..00....0200000000.00.00.0001000000. 0200000000.00...00000000.0001000000..010000 . 0100000000. 0200000000.00.00.0001000000 0200000000.00.00.00.00.000100000000.0001000000 . 0100000000.00. . 01000000.000000"
    -- bounds of a real, the minimum above the maximum
    ∷ accepted "00 . 0100000000..00....0100000000.00.. 0100000000.00...000000 . 0100000000. 0100000000.00. 0100000000.00.00.00. . 0100000000.00. . 01000000.00010001000000000000000100.."
    -- bounds of an enum
    ∷ accepted "00 01000000010000004502000000.010000006d 0100000000..00....0100000000.00.. 0100000000.00...0401000000450000 . 0100000000. 0100000000.00. 0100000000.00.00.00. . 0100000000.00. . 01000000.04010000004501040100000045010000000104010000004502000000"
    -- a target-bound class, arch and os
    ∷ accepted "010100000061010000006f . 0100000000.0d00000043444c2e5265616c732e53696e00...... . . 0100000000. . . . . . ."
    -- under revision 1: a target-bound class and tag 0
    ∷ revision1 (accepted "00 . 0100000000.0d00000043444c2e5265616c732e53696e00...... . . 0100000000. . . . . . .")
    -- under revision 1: no such class and tag 1
    ∷ revision1 (accepted "010100000061010000006f . 0100000000..00...... . . 0100000000. . . . . . .")
    ∷ []

abbrev pub declaration_rows : List Row
declaration_rows =
    -- a class without member, named by a connector
    refused_by 11 "00 010000000100000045. 0100000000..00....0100000000.00.. 0100000000.00...0401000000450000 . 0100000000. 0100000000.00. 0100000000.00.00.00. . . . ."
    -- a class without member; 12 would refuse too
    ∷ refused_by 11 "00 010000000100000045. 0100000000..0101000000..... . . 0100000000. . . . . . ."
    -- algebraic with a revision
    ∷ refused_by 12 "00 . 0100000000..0001000000..... . . 0100000000. . . . . . ."
    -- algebraic with a length
    ∷ refused_by 12 "00 . 0100000000..00.0100000000000000... . . 0100000000. . . . . . ."
    -- stateful without revision
    ∷ refused_by 12 "00 . 0100000000..01.0100000000000000... . . 0100000000. . . 0100000000...0100000000000000 . . ."
    -- stateful without length
    ∷ refused_by 12 "00 . 0100000000..0101000000..... . . 0100000000. . . . . . ."
    -- stateful without length; 13 would refuse too
    ∷ refused_by 12 "00 . 0100000000..0101000000..01000000.04010000004601000000.. . . 0100000000. . . . . . ."
    -- ordinal 0
    ∷ refused_by 13 "00 01000000010000004502000000.010000006d 0100000000..00...01000000.040100000045... . . 0100000000. . . . . . ."
    -- ordinal one above the members
    ∷ refused_by 13 "00 01000000010000004502000000.010000006d 0100000000..00...01000000.04010000004503000000.. . . 0100000000. . . . . . ."
    -- an unlisted class
    ∷ refused_by 13 "00 01000000010000004502000000.010000006d 0100000000..00...01000000.04010000004601000000.. . . 0100000000. . . . . . ."
    -- an unlisted class; 14 would refuse too
    ∷ refused_by 13 "00 . 0100000000..00...01000000.040100000046010000000100000000.01.. . . 0100000000. . . . . . ."
    -- an input of another owner
    ∷ refused_by 14 "00 . 0100000000..00....0100000000010000006200.. . . 0100000000. . . . . . ."
    -- an input of direction out
    ∷ refused_by 14 "00 . 0100000000..00....0100000000.01.. . . 0100000000. . . . . . ."
    -- an input with index 1 at place 0
    ∷ refused_by 14 "00 . 0100000000..00....0100000000.0001000000. . . 0100000000. . . . . . ."
    -- an output of another owner
    ∷ refused_by 14 "00 . 0100000000..00.....0100000000010000006201. . . 0100000000. . . . . . ."
    -- an output of direction in
    ∷ refused_by 14 "00 . 0100000000..00.....0100000000.00. . . 0100000000. . . . . . ."
    -- an output with index 0 at place 1
    ∷ refused_by 14 "00 . 0100000000..00.....0200000000.01.00.01. . . 0100000000. . . . . . ."
    -- an input of direction out; 12 would refuse the next block
    ∷ refused_by 14 "00 . 0200000000..00....0100000000.01..000100000062.0101000000..... . . 0100000000. . . . . . ."
    -- a connector without port
    ∷ refused_by 15 "00 . 0100000000..00...... 0100000000.00...000000 . 0100000000. . . . . . ."
    -- a port without connector
    ∷ refused_by 15 "00 . 0100000000..00....0100000000.00.. . . 0100000000. 0100000000.00. 0100000000.00.00.00. . . . ."
    -- a port without connector; 16 would refuse too
    ∷ refused_by 15 "00 01000000010000004502000000.010000006d 0100000000..00....0100000000.00.. . . 0100000000. 0100000000.00. 0100000000.00.00.00. . . . ."
    -- a class that nothing names
    ∷ refused_by 16 "00 01000000010000004502000000.010000006d 0100000000..00...... . . 0100000000. . . . . . ."
    -- a connector of an unlisted class
    ∷ refused_by 16 "00 . 0100000000..00....0100000000.00.. 0100000000.00...0401000000450000 . 0100000000. 0100000000.00. 0100000000.00.00.00. . . . ."
    -- a class that nothing names; 17 would refuse too
    ∷ refused_by 16 "00 01000000010000004502000000.010000006d 0100000000..00...... . 0100000000.01.00.00. 0100000000. . . . . . ."
    ∷ []

abbrev pub reference_rows : List Row
reference_rows =
    -- a connection from an input
    refused_by 17 "00 . 0100000000..00....0100000000.00.. 0100000000.00...000000 0100000000.00.00.00. 0100000000. 0100000000.00. 0100000000.00.00.00. . . . ."
    -- a connection to an output
    ∷ refused_by 17 "00 . 0100000000..00.....0100000000.01. 0100000000.01...000000 0100000000.01.00.01. 0100000000. 0100000000.01. 0100000000.01.00.01. . . . ."
    -- a connection from an unknown output
    ∷ refused_by 17 "00 . 0100000000..00....0100000000.00.. 0100000000.00...000000 0100000000.01.00.00. 0100000000. 0100000000.00. 0100000000.00.00.00. . . . ."
    -- a connection to an unknown input
    ∷ refused_by 17 "00 . 0100000000..00.....0100000000.01. 0100000000.01...000000 0100000000.01.00.00. 0100000000. 0100000000.01. 0100000000.01.00.01. . . . ."
    -- a connection between unknown ports; 18 would refuse too
    ∷ refused_by 17 "00 . 0100000000..00...... . 0100000000.01.00.00. . . . . . . ."
    -- a block scheduled twice
    ∷ refused_by 18 "00 . 0100000000..00...... . . 0200000000.00. . . . . . ."
    -- a block not scheduled
    ∷ refused_by 18 "00 . 0100000000..00...... . . . . . . . . ."
    -- an unknown block scheduled too
    ∷ refused_by 18 "00 . 0100000000..00...... . . 0200000000.000100000062 . . . . . ."
    -- a block not scheduled; 19 would refuse too
    ∷ refused_by 18 "00 . 0100000000..00....0100000000.00.. 0100000000.00...000000 . . . 0100000000.00.00.00. . . . ."
    -- a connector ordered twice
    ∷ refused_by 19 "00 . 0100000000..00....0100000000.00.. 0100000000.00...000000 . 0100000000. 0200000000.00.00.00. 0100000000.00.00.00. . . . ."
    -- a connector not ordered
    ∷ refused_by 19 "00 . 0100000000..00....0100000000.00.. 0100000000.00...000000 . 0100000000. . 0100000000.00.00.00. . . . ."
    -- an unknown connector ordered too
    ∷ refused_by 19 "00 . 0100000000..00....0100000000.00.. 0100000000.00...000000 . 0100000000. 0200000000.00.00.0001000000 0100000000.00.00.00. . . . ."
    -- a connector not ordered; 20 would refuse too
    ∷ refused_by 19 "00 . 0100000000..00....0100000000.00.. 0100000000.00...000000 . 0100000000. . . . . . ."
    -- no driver for a connector
    ∷ refused_by 20 "00 . 0100000000..00....0100000000.00.. 0100000000.00...000000 . 0100000000. 0100000000.00. . . . . ."
    -- a driver too many
    ∷ refused_by 20 "00 . 0100000000..00....0100000000.00.. 0100000000.00...000000 . 0100000000. 0100000000.00. 0200000000.00.00.00.00.000100000000.00. . . . ."
    -- an unknown driver
    ∷ refused_by 20 "00 . 0100000000..00....0100000000.00.. 0100000000.00...000000 . 0100000000. 0100000000.00. 0100000000.00.00.01. . . . ."
    -- an unknown connector driven
    ∷ refused_by 20 "00 . 0100000000..00....0100000000.00.. 0100000000.00...000000 . 0100000000. 0100000000.00. 0100000000.01.00.00. . . . ."
    -- no driver for a connector; 21 would refuse too
    ∷ refused_by 20 "00 . 0100000000..01010000000100000000000000.0100000000.00.. 0100000000.00...000000 . 0100000000. 0100000000.00. . . . . ."
    ∷ []

abbrev pub slot_rows : List Row
slot_rows =
    -- a slot for an algebraic block
    refused_by 21 "00 . 0100000000..00...... . . 0100000000. . . 0100000000..... . . ."
    -- a stateful block without slot
    ∷ refused_by 21 "00 . 0100000000..01010000000100000000000000... . . 0100000000. . . . . . ."
    -- a slot too many, for an unknown block
    ∷ refused_by 21 "00 . 0100000000..01010000000100000000000000... . . 0100000000. . . 0200000000...010000000000000000010000006201000000000000000100000000000000 . . ."
    -- a slot too many; 22 would refuse too
    ∷ refused_by 21 "00 . 0100000000..01010000000100000000000000... . . 0100000000. . . 0200000000...020000000000000000010000006202000000000000000100000000000000 . . ."
    -- a slot shorter than its block's state
    ∷ refused_by 22 "00 . 0100000000..01010000000200000000000000... . . 0100000000. . . 0100000000...0100000000000000 . . ."
    -- a slot longer than its block's state; 23 would refuse too
    ∷ refused_by 22 "00 . 0100000000..01010000000100000000000000... . . 0100000000. . . 0100000000.ffffffffffffffff0200000000000000 . . ."
    -- a slot at 2^64 - 1 of length 1
    ∷ refused_by 23 "00 . 0100000000..01010000000100000000000000... . . 0100000000. . . 0100000000.ffffffffffffffff0100000000000000 . . ."
    -- a slot at 2^64 - 1 of length 1; 22 would refuse the next slot
    ∷ refused_by 23 "00 . 0200000000..01010000000100000000000000...000100000062.01010000000100000000000000... . . 0200000000.000100000062 . . 0200000000.ffffffffffffffff0100000000000000000100000062..0200000000000000 . . ."
    -- a slot that starts at 1
    ∷ refused_by 24 "00 . 0100000000..01010000000100000000000000... . . 0100000000. . . 0100000000.01000000000000000100000000000000 . . ."
    -- a slot that ends at 2^64 - 1
    ∷ refused_by 24 "00 . 0100000000..01010000000100000000000000... . . 0100000000. . . 0100000000.feffffffffffffff0100000000000000 . . ."
    -- slots with a gap
    ∷ refused_by 24 "00 . 0200000000..01010000000100000000000000...000100000062.01010000000100000000000000... . . 0200000000.000100000062 . . 0200000000...010000000000000000010000006202000000000000000100000000000000 . . ."
    -- slots that overlap
    ∷ refused_by 24 "00 . 0200000000..01010000000200000000000000...000100000062.01010000000100000000000000... . . 0200000000.000100000062 . . 0200000000...020000000000000000010000006201000000000000000100000000000000 . . ."
    -- slots at one place
    ∷ refused_by 24 "00 . 0200000000..01010000000100000000000000...000100000062.01010000000100000000000000... . . 0200000000.000100000062 . . 0200000000...0100000000000000000100000062..0100000000000000 . . ."
    -- a slot that starts at 1; 25 would refuse too
    ∷ refused_by 24 "00 . 0100000000..01010000000100000000000000... . . 0100000000. . . 0100000000.01000000000000000100000000000000 0100000000.00. . ."
    ∷ []

abbrev pub boundary_rows : List Row
boundary_rows =
    -- an external input twice
    refused_by 25 "00 . 0100000000..00....0100000000.00.. 0100000000.00...000000 . 0100000000. 0100000000.00. 0100000000.00.00.00. . 0200000000.00.00.00. . ."
    -- an unknown external input
    ∷ refused_by 25 "00 . 0100000000..00....0100000000.00.. 0100000000.00...000000 . 0100000000. 0100000000.00. 0100000000.00.00.00. . 0100000000.0001000000 . ."
    -- an output as external input
    ∷ refused_by 25 "00 . 0100000000..00.....0100000000.01. 0100000000.01...000000 . 0100000000. 0100000000.01. 0100000000.01.00.01. . 0100000000.01. . ."
    -- an unknown external input; 26 would refuse too
    ∷ refused_by 25 "00 . 0100000000..00...... . . 0100000000. . . . 0100000000.00. 01000000.00.01. ."
    -- an input as boundary source
    ∷ refused_by 26 "00 . 0100000000..00....0100000000.00.. 0100000000.00...000000 . 0100000000. 0100000000.00. 0100000000.00.00.00. . . 01000000.00.00. ."
    -- an unknown boundary source
    ∷ refused_by 26 "00 . 0100000000..00.....0100000000.01. 0100000000.01...000000 . 0100000000. 0100000000.01. 0100000000.01.00.01. . . 01000000.00.0101000000 ."
    -- two boundary outputs of one name
    ∷ refused_by 26 "00 . 0100000000..00.....0100000000.01. 0100000000.01...000000 . 0100000000. 0100000000.01. 0100000000.01.00.01. . . 02000000.00.01..00.01. ."
    -- an input as boundary source; 28 would refuse too
    ∷ refused_by 26 "00 . 0100000000..00....0100000000.00.. 0100000000.00...000000 . 0100000000. 0100000000.00. 0100000000.00.00.00. . 0100000000.00. 01000000.00.00. ."
    ∷ []

abbrev pub input_rows : List Row
input_rows =
    -- two external inputs of one path, real and integer
    refused_by 27 "00 . 0100000000..00....0200000000.00.00.0001000000. 0200000000.00...00000000.0001000000..010000 . 0100000000. 0200000000.00.00.0001000000 0200000000.00.00.00.00.000100000000.0001000000 . 0200000000.00.00.0001000000 . 01000000.000000"
    -- two external inputs of one path, of two classes
    ∷ refused_by 27 "00 02000000010000004502000000.010000006d010000004602000000.010000006d 0100000000..00....0200000000.00.00.0001000000. 0200000000.00...040100000045000000.0001000000..0401000000460000 . 0100000000. 0200000000.00.00.0001000000 0200000000.00.00.00.00.000100000000.0001000000 . 0200000000.00.00.0001000000 . 01000000.0401000000450000"
    -- two external inputs of one path, real and integer; 28 would refuse too
    ∷ refused_by 27 "00 . 0100000000..00....0200000000.00.00.0001000000. 0200000000.00...00000000.0001000000..010000 . 0100000000. 0200000000.00.00.0001000000 0200000000.00.00.00.00.000100000000.0001000000 . 0200000000.00.00.0001000000 . ."
    -- a definition too few
    ∷ refused_by 28 "00 . 0100000000..00....0100000000.00.. 0100000000.00...000000 . 0100000000. 0100000000.00. 0100000000.00.00.00. . 0100000000.00. . ."
    -- a definition too many
    ∷ refused_by 28 "00 . 0100000000..00....0100000000.00.. 0100000000.00...000000 . 0100000000. 0100000000.00. 0100000000.00.00.00. . 0100000000.00. . 02000000.0000000100000070000000"
    -- a definition of an unknown path
    ∷ refused_by 28 "00 . 0100000000..00....0100000000.00.. 0100000000.00...000000 . 0100000000. 0100000000.00. 0100000000.00.00.00. . 0100000000.00. . 010000000100000070000000"
    -- a definition of another type
    ∷ refused_by 28 "00 . 0100000000..00....0100000000.00.. 0100000000.00...000000 . 0100000000. 0100000000.00. 0100000000.00.00.00. . 0100000000.00. . 01000000.010000"
    -- a definition of another type; 29 would refuse too
    ∷ refused_by 28 "00 . 0100000000..00....0100000000.00.. 0100000000.00...000000 . 0100000000. 0100000000.00. 0100000000.00.00.00. . 0100000000.00. . 01000000.010100..00"
    -- a definition of another enum class
    ∷ refused_by 28 "00 02000000010000004502000000.010000006d010000004602000000.010000006d 0100000000..00....0200000000.00.00.0001000000. 0200000000.00...040100000045000000.0001000000..0401000000460000 . 0100000000. 0200000000.00.00.0001000000 0200000000.00.00.00.00.000100000000.0001000000 . 0100000000.00. . 01000000.0401000000460000"
    -- a Boolean with a minimum
    ∷ refused_by 29 "00 . 0100000000..00....0100000000.00.. 0100000000.00...020000 . 0100000000. 0100000000.00. 0100000000.00.00.00. . 0100000000.00. . 01000000.0201020000"
    -- a string with a maximum
    ∷ refused_by 29 "00 . 0100000000..00....0100000000.00.. 0100000000.00...030000 . 0100000000. 0100000000.00. 0100000000.00.00.00. . 0100000000.00. . 01000000.03000103."
    -- a minimum of another type
    ∷ refused_by 29 "00 . 0100000000..00....0100000000.00.. 0100000000.00...000000 . 0100000000. 0100000000.00. 0100000000.00.00.00. . 0100000000.00. . 01000000.000101010000000000000000"
    -- a maximum of another type
    ∷ refused_by 29 "00 . 0100000000..00....0100000000.00.. 0100000000.00...000000 . 0100000000. 0100000000.00. 0100000000.00.00.00. . 0100000000.00. . 01000000.000100..01010100000000000000"
    -- a minimum of another enum class
    ∷ refused_by 29 "00 02000000010000004502000000.010000006d010000004602000000.010000006d 0100000000..00....0200000000.00.00.0001000000. 0200000000.00...040100000045000000.0001000000..0401000000460000 . 0100000000. 0200000000.00.00.0001000000 0200000000.00.00.00.00.000100000000.0001000000 . 0100000000.00. . 01000000.040100000045010401000000460100000000"
    -- a minimum of another enum class; 30 would refuse it too
    ∷ refused_by 29 "00 02000000010000004502000000.010000006d010000004602000000.010000006d 0100000000..00....0200000000.00.00.0001000000. 0200000000.00...040100000045000000.0001000000..0401000000460000 . 0100000000. 0200000000.00.00.0001000000 0200000000.00.00.00.00.000100000000.0001000000 . 0100000000.00. . 01000000.04010000004501040100000046.00"
    -- a minimum of another type; 30 would refuse the maximum
    ∷ refused_by 29 "00 01000000010000004502000000.010000006d 0100000000..00....0100000000.00.. 0100000000.00...0401000000450000 . 0100000000. 0100000000.00. 0100000000.00.00.00. . 0100000000.00. . 01000000.0401000000450100..01040100000045."
    -- a minimum of another type; 28 would refuse the next definition
    ∷ refused_by 29 "00 . 0100000000..00....0200000000.00.00.0001000000. 0200000000.00...00000000.00010000000100000070.010000 . 0100000000. 0200000000.00.00.0001000000 0200000000.00.00.00.00.000100000000.0001000000 . 0200000000.00.00.0001000000 . 02000000.0001010100000000000000000100000071000000"
    -- a minimum with ordinal 0
    ∷ refused_by 30 "00 01000000010000004502000000.010000006d 0100000000..00....0100000000.00.. 0100000000.00...0401000000450000 . 0100000000. 0100000000.00. 0100000000.00.00.00. . 0100000000.00. . 01000000.04010000004501040100000045.00"
    -- a maximum with ordinal one above the members
    ∷ refused_by 30 "00 01000000010000004502000000.010000006d 0100000000..00....0100000000.00.. 0100000000.00...0401000000450000 . 0100000000. 0100000000.00. 0100000000.00.00.00. . 0100000000.00. . 01000000.040100000045000104010000004503000000"
    -- a minimum with an ordinal too high; 29 would refuse the maximum
    ∷ refused_by 30 "00 01000000010000004502000000.010000006d 0100000000..00....0100000000.00.. 0100000000.00...0401000000450000 . 0100000000. 0100000000.00. 0100000000.00.00.00. . 0100000000.00. . 01000000.04010000004501040100000045030000000100.."
    -- a minimum with ordinal 0; 31 would refuse too
    ∷ refused_by 30 "010100000061010000006f 01000000010000004502000000.010000006d 0100000000..00....0100000000.00.. 0100000000.00...0401000000450000 . 0100000000. 0100000000.00. 0100000000.00.00.00. . 0100000000.00. . 01000000.04010000004501040100000045.00"
    ∷ []

abbrev pub portability_rows : List Row
portability_rows =
    -- a target-bound class and tag 0
    refused_by 31 "00 . 0100000000.0d00000043444c2e5265616c732e53696e00...... . . 0100000000. . . . . . ."
    -- no target-bound class and tag 1
    ∷ refused_by 31 "010100000061010000006f . 0100000000..00...... . . 0100000000. . . . . . ."
    -- a class that a target-bound one begins with, and tag 1
    ∷ refused_by 31 "010100000061010000006f . 0100000000.0c00000043444c2e5265616c732e536900...... . . 0100000000. . . . . . ."
    -- empty arch
    ∷ refused_by 32 "01.010000006f . 0100000000.0d00000043444c2e5265616c732e53696e00...... . . 0100000000. . . . . . ."
    -- empty os
    ∷ refused_by 32 "010100000061. . 0100000000.0d00000043444c2e5265616c732e53696e00...... . . 0100000000. . . . . . ."
    -- under revision 1: empty os without such a class
    ∷ revision1 (refused_by 32 "010100000061. . 0100000000..00...... . . 0100000000. . . . . . .")
    ∷ []

-- a target-bound class of each name
abbrev pub bound_rows : List Row
bound_rows =
    bound_by "CDL.Psychrometrics.DewPoint_TDryBulPhi"
    ∷ bound_by "CDL.Psychrometrics.SpecificEnthalpy_TDryBulPhi"
    ∷ bound_by "CDL.Psychrometrics.WetBulb_TDryBulPhi"
    ∷ bound_by "CDL.Reals.Acos"
    ∷ bound_by "CDL.Reals.Asin"
    ∷ bound_by "CDL.Reals.Atan"
    ∷ bound_by "CDL.Reals.Atan2"
    ∷ bound_by "CDL.Reals.Cos"
    ∷ bound_by "CDL.Reals.Exp"
    ∷ bound_by "CDL.Reals.Log"
    ∷ bound_by "CDL.Reals.Log10"
    ∷ bound_by "CDL.Reals.Sin"
    ∷ bound_by "CDL.Reals.Sources.Sin"
    ∷ bound_by "CDL.Reals.Tan"
    ∷ bound_by "CDL.Utilities.SunRiseSet"
    ∷ []
