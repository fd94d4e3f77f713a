-- Document 01, "Verdict and units": where two manifests, as read, first differ.
use Rattle.std.specs.Prelude.{ℕ, suc, ◌+◌, cond, Result, Ok, Err, List, [], ◌∷◌, map}
use Rattle.state.specs.declared.Difference.{Difference}
use Rattle.format.specs.Lists.{same}
use Rattle.format.specs.Format.{Fmt, El, number, tag, text, encode}
use Rattle.format.specs.Keys.{block_key, connector_key}
use Rattle.format.specs.Manifest.{value, params, connector_keys, portability, Section, entry, counted, enums, blocks, connectors, connections, schedule, connector_order, driver_of, state_slots, external_inputs, boundary_outputs, input_definitions, sequence, manifest}
use Rattle.format.specs.Fields.{Entry, block_key_of, class_path, kind, state_revision, state_len, params_of, inputs, outputs}

-- what comparing comes to: nothing differs, or this does first
abbrev pub Agreement : Type 0
Agreement = Result Unit Difference

abbrev pub compatible : Agreement
compatible = Ok tt

abbrev pub differs : (section part entry inner : ℕ) → Agreement
differs k p i j = Err (record { section = k; part = p; entry = i; inner = j })

-- the first of two that is a difference
infixr 20 ◌or_else◌
abbrev pub ◌or_else◌ : Agreement → Agreement → Agreement
(Ok u) or_else b = b
(Err d) or_else b = Err d

-- two values of a format: equal, or a difference. They are compared as they are written, which tells them apart (format, proofs/Complete.antt,
-- `same_bytes`): "Reals .. are compared by their eight bytes, so a NaN equals itself and 0 differs from −0"
unfoldable pub field : (f : Fmt) → (difference : Agreement) → El f → El f → Agreement
field f d v w = cond (same (encode f v) (encode f w)) compatible d

-- two lists, entry by entry from place i on: "Places count from 0; for a count it is the shorter length"
module _ {A : Type 0} (entry_at : (place : ℕ) → A → A → Agreement) (count_at : (place : ℕ) → Agreement) where
  unfoldable pub along : (i : ℕ) → List A → List A → Agreement
  along i [] [] = compatible
  along i [] (y ∷ ys) = count_at i
  along i (x ∷ xs) [] = count_at i
  along i (x ∷ xs) (y ∷ ys) = entry_at i x y or_else along (suc i) xs ys

-- ---- blocks, section 3: a difference in a part, of block i at inner place j
abbrev pub in_blocks : (part i j : ℕ) → Agreement
in_blocks p i j = differs 3 p i j

-- "1 key, 2 class, 3 kind, 4 revision, 5 state length"
unfoldable pub head_verdict : (i : ℕ) → Entry blocks → Entry blocks → Agreement
head_verdict i a b =
    field block_key (in_blocks 1 i 0) (block_key_of a) (block_key_of b)
    or_else field text (in_blocks 2 i 0) (class_path a) (class_path b)
    or_else field (tag 2) (in_blocks 3 i 0) (kind a) (kind b)
    or_else field (number 4) (in_blocks 4 i 0) (state_revision a) (state_revision b)
    or_else field (number 8) (in_blocks 5 i 0) (state_len a) (state_len b)

-- "6 parameter name, 7 parameter value, 8 parameter count"
unfoldable pub param_verdict : (i j : ℕ) → (a b : El text × El value) → Agreement
param_verdict i j a b = field text (in_blocks 6 i j) a.0 b.0 or_else field value (in_blocks 7 i j) a.1 b.1

unfoldable pub params_verdict : (i : ℕ) → El params → El params → Agreement
unfolding params
params_verdict i = along (param_verdict i) (in_blocks 8 i) 0

-- "9 input, 10 input count, 11 output, 12 output count": a part, and the next one for the count
unfoldable pub ports_verdict : (part i : ℕ) → El connector_keys → El connector_keys → Agreement
unfolding connector_keys
ports_verdict p i = along (λ j a b. field connector_key (in_blocks p i j) a.0 b.0) (in_blocks (p + 1) i) 0

unfoldable pub block_verdict : (i : ℕ) → Entry blocks → Entry blocks → Agreement
block_verdict i a b =
    head_verdict i a b
    or_else params_verdict i (params_of a) (params_of b)
    or_else ports_verdict 9 i (inputs a) (inputs b)
    or_else ports_verdict 11 i (outputs a) (outputs b)

-- ---- sections: a format, and what two values of it come to
pub record Comparison : Type 0 where
  pub format : Fmt
  pub compare : El format → El format → Agreement

-- "0 .. whole section (1, 5 to 11)"
abbrev pub whole : (section : ℕ) → Fmt → Comparison
whole k f = record { format = f; compare = field f (differs k 0 0 0) }

-- a list, entry by entry; "13 entry count"
abbrev pub listwise : (section : ℕ) (e : Section) → ((place : ℕ) → Entry e → Entry e → Agreement) → Comparison
listwise k e c = record { format = counted e; compare = along c (λ i. differs k 13 i 0) 0 }

-- "0 whole entry (sections 2, 4, 12)"
abbrev pub entrywise : (section : ℕ) → Section → Comparison
entrywise k e = listwise k e (λ i. field (entry e) (differs k 0 i 0))

-- the twelve
abbrev pub comparisons : List Comparison
comparisons =
    whole 1 portability
    ∷ entrywise 2 enums
    ∷ listwise 3 blocks block_verdict
    ∷ entrywise 4 connectors
    ∷ whole 5 (counted connections)
    ∷ whole 6 (counted schedule)
    ∷ whole 7 (counted connector_order)
    ∷ whole 8 (counted driver_of)
    ∷ whole 9 (counted state_slots)
    ∷ whole 10 (counted external_inputs)
    ∷ whole 11 (counted boundary_outputs)
    ∷ entrywise 12 input_definitions
    ∷ []

-- "Compatible means that all twelve sections hold the same entries ..; else the section is the first that doesn't"
abbrev pub formats : List Comparison → List Fmt
formats = map (λ c. c.format)

unfoldable pub over : (cs : List Comparison) → El (sequence (formats cs)) → El (sequence (formats cs)) → Agreement
over [] v w = compatible
over (c ∷ cs) v w = c.compare v.0 w.0 or_else over cs v.1 w.1

unfoldable pub verdict : El manifest → El manifest → Agreement
unfolding manifest
verdict v w = over comparisons v w
