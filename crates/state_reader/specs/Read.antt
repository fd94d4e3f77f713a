-- Document 01, "What must change shape": "`Reader` becomes a struct with a borrowed byte slice, position and base". Here is what it is where it
-- is made and moved, and the one answer that it gives beside state_wire's.
use Rattle.std.specs.Prelude.{ℕ, ◌+◌, List, Result, Ok, Err}
use Rattle.std.specs.Borrow.{Bor}
use Rattle.state.specs.declared.Refusal.{Refusal}
use Rattle.state.specs.Outcome.{Outcome, got, refused, refuses, NumberRead, offset_of}
use Rattle.state_reader.specs.declared.Reader.{Reader}
use Rattle.state_reader.specs.declared.TextSpan.{TextSpan}

-- a reader at the first of the lent bytes
abbrev pub opened : Bor (List ℕ) → (base : ℕ) → Reader
opened bytes base = record { bytes = bytes; position = 0; base_offset = base }

-- the same bytes and base at another position
abbrev pub moved_to : Reader → (position : ℕ) → Reader
moved_to r position = record { bytes = r.bytes; position = position; base_offset = r.base_offset }

-- where reading goes on after a number's reading at `at`: a refusal leaves the position
abbrev pub past_field : NumberRead → (at : ℕ) → ℕ
past_field (Ok f) at = f.1
past_field (Err e) at = at

-- what code answers that reads a string: where its text begins and ends
abbrev pub TextRead : Type 0
TextRead = Result TextSpan (Refusal ℕ)

-- a string's reading at `at`, as an answer with a base: where its text begins and ends. Document 01, state_wire.rs: "A string is two fields, a
-- u32 length and a text of that many bytes", so the text begins four bytes on; "A refusal is number and offset"
abbrev pub string_read : (base at : ℕ) → Outcome (List ℕ) → TextRead
string_read base at (got bs next) = Ok (record { start = at + 4; end = next })
string_read base at (refused q p) = refuses q (offset_of base p)
