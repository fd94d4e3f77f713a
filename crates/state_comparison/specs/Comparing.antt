-- Two manifests side by side: what the contracts of this crate cite.
use Rattle.std.specs.Prelude.{Err, ℕ, ◌+◌, ◌-◌, ◌≡◌, List, length, get_or}
use Rattle.state.specs.Bytes.{AreBytes}
use Rattle.state.specs.declared.Difference.{Difference}
use Rattle.state_comparison.specs.declared.Sides.{Sides}
use Rattle.state_wire.specs.Fields.{max_snapshot_bytes}
use Rattle.format.specs.Format.{Fmt, El, free, done}
use Rattle.format.specs.Keys.{connector_key}
use Rattle.format.specs.Manifest.{connector_keys, Section, section, entry, counted, input_definitions, manifest}
use Rattle.format.specs.Places.{manifest_starts, past}
use Rattle.format.specs.Values.{value_at, Well}
use Rattle.verdict.specs.Verdict.{Agreement, ◌or_else◌, field, along, ports_verdict, Comparison, entrywise, comparisons}

-- values of a format were read at a of s and at b of t
pub record Both (f : Fmt) (s t : List ℕ) (a b : ℕ) : Type 0 where
  pub bytes : AreBytes s
  pub bytes' : AreBytes t
  pub well : Well max_snapshot_bytes f s a
  pub well' : Well max_snapshot_bytes f t b

-- the ports of a block as a list of entries
abbrev pub ports : Section
ports = section 10 free connector_key done

-- how section k compares; 12 stands for any number above
unfoldable pub comparison : ℕ → Comparison
comparison k = get_or comparisons (k - 1) (entrywise 12 input_definitions)

-- a manifest that was read to its end, and where its sections start
pub record Stands (s starts : List ℕ) : Type 0 where
  pub bytes : AreBytes s
  pub well : Well max_snapshot_bytes manifest s 0
  pub ends : past manifest s 0 ≡ length s
  pub starts-are : starts ≡ manifest_starts max_snapshot_bytes s

-- what the inputs of block i at two places come to, and then the outputs behind them
abbrev pub ports_at : (i : ℕ) → (s t : List ℕ) → (a b : ℕ) → Agreement
ports_at i s t a b =
    ports_verdict 9 i (value_at connector_keys s a) (value_at connector_keys t b)
    or_else ports_verdict 11 i (value_at connector_keys s (past connector_keys s a)) (value_at connector_keys t (past connector_keys t b))

-- two lists of one kind, and which differences their entries and their counts are at a place
pub record Lists : Type 0 where
  pub list : Section
  pub of_entry : (place : ℕ) → Difference
  pub of_count : (place : ℕ) → Difference

-- the entries of section k, and the count of them
abbrev pub section_lists : (k : ℕ) → Section → Lists
section_lists k e = record {
  list = e;
  of_entry = λ i. record { section = k; part = 0; entry = i; inner = 0 };
  of_count = λ i. record { section = k; part = 13; entry = i; inner = 0 };
}

-- what closures tell of them: where an entry of s or of t ends that starts at a position, and the differences
pub record Tells (l : Lists) (s t : List ℕ) (ends ends' : (at end : ℕ) → Type 0) (entries counts : (place : ℕ) → Difference → Type 0) : Type 0 where
  pub ends-so : {p e : ℕ} → ends p e → e ≡ past (entry l.list) s p
  pub ends-so' : {p e : ℕ} → ends' p e → e ≡ past (entry l.list) t p
  pub entry-so : {i : ℕ} {d : Difference} → entries i d → d ≡ l.of_entry i
  pub count-so : {i : ℕ} {d : Difference} → counts i d → d ≡ l.of_count i

abbrev pub lists_verdict : (l : Lists) → El (counted l.list) → El (counted l.list) → Agreement
lists_verdict l = along (λ i. field (entry l.list) (Err (l.of_entry i))) (λ i. Err (l.of_count i)) 0

-- the places behind two values of a format
pub record Moved (f : Fmt) (s t : List ℕ) (from to : Sides) : Type 0 where
  pub snapshot : to.snapshot ≡ past f s from.snapshot
  pub target : to.target ≡ past f t from.target

-- the ports of block i: a part of the verdict, and the next one for their count
abbrev pub ports_lists : (part i : ℕ) → Lists
ports_lists part i = record {
  list = ports;
  of_entry = λ j. record { section = 3; part = part; entry = i; inner = j };
  of_count = λ j. record { section = 3; part = part + 1; entry = i; inner = j };
}
