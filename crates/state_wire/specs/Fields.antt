-- Document 01, questions 3 to 7: what is asked at a field, in which order and where it is refused.
use Rattle.std.specs.Prelude.{ℕ, ◌+◌, ◌*◌, ◌-◌, List, [], length, ltb, leb, eqb}
use Rattle.state.specs.Bytes.{span, number_of}
use Rattle.state.specs.Outcome.{Outcome, got, refused, bind, ask}
use Rattle.utf8.specs.Valid.{valid_up_to}

-- "3. Bytes enough for it? 3, at its start." The n bytes of a field
unfoldable pub read_span : (n : ℕ) → List ℕ → ℕ → Outcome (List ℕ)
read_span n s at = ask (leb (at + n) (length s)) 3 at (got (span s at (at + n)) (at + n))

-- a number of so many bytes
unfoldable pub read_number : (width : ℕ) → List ℕ → ℕ → Outcome ℕ
read_number w s at = bind (read_span w s at) (λ bs next. got (number_of bs) next)

-- "6. Tag or Boolean byte known? 6, at the byte after it." Known are those below a number
unfoldable pub read_tag : (known : ℕ) → List ℕ → ℕ → Outcome ℕ
read_tag known s at = bind (read_number 1 s at) (λ t next. ask (ltb t known) 6 next (got t next))

-- "7. Count × least bytes within what is left? 7, at the byte after the count." That byte stands at `next`
unfoldable pub bounded_count : (least : ℕ) → List ℕ → (count next : ℕ) → Outcome ℕ
bounded_count least s n next = ask (leb (n * least) (length s - next)) 7 next (got n next)

unfoldable pub read_count : (width least : ℕ) → List ℕ → ℕ → Outcome ℕ
read_count w least s at = bind (read_number w s at) (bounded_count least s)

-- the highest limit of a string, and the longest manifest
abbrev pub max_snapshot_bytes : ℕ
max_snapshot_bytes = 67108864

-- "A string is two fields, a u32 length and a text of that many bytes." Its length is asked 3, then "4. String length within 67,108,864?
-- 4, at the length", here within a limit; its text 3, then "5. Text valid? 5, at the end of the valid prefix"
unfoldable pub read_text : (limit : ℕ) → List ℕ → ℕ → Outcome (List ℕ)
read_text limit s at =
    bind (read_number 4 s at) (λ n start.
    ask (leb n limit) 4 at (
    bind (read_span n s start) (λ bs next.
    ask (eqb (valid_up_to bs) n) 5 (start + valid_up_to bs) (got bs next))))

-- the text that was read, none where it was refused
abbrev pub text_of : Outcome (List ℕ) → List ℕ
text_of (got bs next) = bs
text_of (refused q p) = []
