-- Document 01, "The tail is what follows a manifest in a snapshot: u32 count and values, u64 count and words, u32 flags", and questions 33 to 38.
use Rattle.std.specs.Prelude.{ℕ, List, [], ◌∷◌, map, Bool, ◌&&◌, length, eqb}
use Rattle.state.specs.Outcome.{Outcome, got, bind, ask, heed}
use Rattle.state_wire.specs.Fields.{max_snapshot_bytes}
use Rattle.format.specs.Lists.{same}
use Rattle.format.specs.Format.{wire, free, late, Fmt, El, done, number, list, read, encode}
use Rattle.format.specs.Keys.{connector_key}
use Rattle.format.specs.Manifest.{value, Section, section, counted, enums, connectors, manifest}
use Rattle.format.specs.Fields.{Entry, enums_of, connectors_of, slots_of, connector_key_of, value_type_of}
use Rattle.questions.specs.Sets.{any, ◌unless◌, first}
use Rattle.questions.specs.Declarations.{connector_names, enum_holds}
use Rattle.questions.specs.References.{is_known}
use Rattle.questions.specs.Inputs.{has_type}
use Rattle.questions.specs.Units.{word_total}

-- ---- formats
-- "value 12": a connector's key and its value. "Values follow wire key order"
abbrev pub values : Section
values = section 12 (late wire) connector_key value

-- "word 8"
unfoldable pub words : Fmt
words = list 8 8 free (number 8) done

-- "u32 flags"
unfoldable pub flags : Fmt
flags = number 4

-- ---- 33 to 36
-- the key of a connector value, and the value itself
unfoldable pub value_key : Entry values → El connector_key
value_key v = v.0

unfoldable pub value_of : Entry values → El value
value_of v = v.1

-- "type equal?": some connector has the value's key, and its type
unfoldable pub type_is : List (Entry connectors) → Entry values → Bool
type_is cs v = any (λ c. same (encode connector_key (value_key v)) (encode connector_key (connector_key_of c)) && has_type (value_of v) (value_type_of c)) cs

-- "key known? 34, type equal? 35, ordinal in range? 36"
unfoldable pub value_answer : List (Entry enums) → List (Entry connectors) → Entry values → ℕ
value_answer es cs v =
    first (34 unless (is_known (connector_names cs) (value_key v)) ∷ 35 unless (type_is cs v) ∷ 36 unless (enum_holds es (value_of v)) ∷ [])

-- "as many as connectors? 33; then value by value"
unfoldable pub values_answer : List (Entry enums) → List (Entry connectors) → List (Entry values) → ℕ
values_answer es cs vs = first (33 unless (eqb (length vs) (length cs)) ∷ first (map (value_answer es cs) vs) ∷ [])

-- ---- the tail of a manifest, by positions from the tail's first byte
-- "At the word count's start, after the words are read: equal to the slots' total? 37"
unfoldable pub read_words : (total : ℕ) → List ℕ → ℕ → Outcome (El words)
unfolding words
read_words total t at = bind (read max_snapshot_bytes words t at) (λ ws n. ask (eqb (length ws) total) 37 at (got ws n))

-- "At the flags' start: zero? 38", and "10 after 38"
unfoldable pub read_flags : List ℕ → ℕ → Outcome (El flags)
unfolding flags
read_flags t at =
    bind (read max_snapshot_bytes flags t at) (λ f n.
    ask (eqb f 0) 38 at (
    ask (eqb n (length t)) 10 n (got f n)))

-- "In the tail 3 to 7, 9 and 10 hold .. At the end of the values: .. 33 .. 36." "Acceptance gives what the manifest's gives": the manifest is what
-- comes of it
unfoldable pub read_tail : El manifest → List ℕ → Outcome (El manifest)
read_tail m t =
    bind (read max_snapshot_bytes (counted values) t 0) (λ vs p.
    heed (values_answer (enums_of m) (connectors_of m) vs) p (
    bind (read_words (word_total (slots_of m)) t p) (λ ws q.
    bind (read_flags t q) (λ f n.
    got m n))))
