-- Each section's words in an index that `read_manifest` left.
use Prim.Native.Nat.{ℕ, zero, suc, ◌+◌, ◌*◌, ◌-◌, ◌^◌, ◌≤◌, ◌<◌}
use native.Mathlib.Omega.{arith}
use mathlib.Core.Path.{◌≡◌, refl, sym, ap, ◌∙◌}
use mathlib.Core.List.{List, [], ◌∷◌, ◌++◌, map}
use lib.ListN.{length, get_or, take, drop, length-take, length-drop, length-append}
use lib.Seq.{take_at, drop_at, take-take}
use Rattle.state.specs.Bytes.{span}
use Rattle.state.proofs.Bytes.{span-length}
use Rattle.format.specs.Format.{El}
use Rattle.format.specs.Manifest.{Section, counted, lists, sequence, portability, manifest, enums, blocks, connectors, connections, schedule, connector_order, driver_of, state_slots, external_inputs, boundary_outputs, input_definitions}
use Rattle.format.specs.Fields.{enums_of, blocks_of, connectors_of, connections_of, schedule_of, connector_order_of, drivers_of, slots_of, external_inputs_of, boundary_outputs_of, input_definitions_of}
use Rattle.format.specs.Places.{number_at, end_at, section_starts, manifest_starts, manifest_entries, past}
use Rattle.format.specs.Reading.{index_words}
use Rattle.format.specs.Values.{value_at, Well}
use Rattle.format.proofs.Places.{end-got}
use Rattle.format.proofs.Sizes.{sections-take}
use Rattle.format.proofs.Values.{values_length, well-then}
use Rattle.state_index.proofs.Lists.{slice-run}
use Rattle.questions.specs.Sets.{sum}
use Rattle.state_layout.specs.Tables.{manifest_of, counts, table_start, table_of, room_start, room_end, Laid, Tabled, Started, Table, Leaves}
use Rattle.state_layout.proofs.Starts.{starts-twelve, starts-list, word-there}
use Rattle.state_layout.proofs.Tables.{limit, Tables, lists-tables, pick, picked, span-after, table-picked}

-- ---- words of the index
span-front : (l : List ℕ) (r x y : ℕ) → y ≤ r → span (take r l) x y ≡ span l x y
span-front l r x y h = sym (slice-run x y (take r l)) ∙ ap (drop x) (take-take y r l h) ∙ slice-run x y l

sum-le : (ns : List ℕ) (i j : ℕ) → i ≤ j → sum (take i ns) ≤ sum (take j ns)
unfolding sum
sum-le [] zero zero h = omega arith
sum-le [] zero (suc j) h = omega arith
sum-le [] (suc i) zero h = omega arith
sum-le [] (suc i) (suc j) h = omega arith
sum-le (n ∷ ns) zero j h = omega arith
sum-le (n ∷ ns) (suc i) zero h = absurd (omega arith)
sum-le (n ∷ ns) (suc i) (suc j) h = omega (arith, sum-le ns i j (omega arith))

module _ {s index : List ℕ} (t : Laid s index) where
  entries-tables : unfold manifest in Tables s t.bytes lists (manifest_entries limit s) (manifest_of s).1
  unfolding manifest manifest_entries value_at
  entries-tables =
      let p = well-then limit s portability (sequence (map counted lists)) 0 t.well in
      let i : end_at limit portability s 0 ≡ past portability s 0 = end-got limit portability s 0 p.0.reads in
      rw i (lists-tables s t.bytes lists (past portability s 0) p.1)

  entries-span : (a b : ℕ) → 12 + b ≤ room_start s → span index (12 + a) (12 + b) ≡ span (manifest_entries limit s) a b
  entries-span a b h =
      sym (span-front index (room_start s) (12 + a) (12 + b) h)
      ∙ ap (λ l. span l (12 + a) (12 + b)) t.words
      ∙ span-after (manifest_starts limit s ++ manifest_entries limit s) 12 a b
      ∙ ap (λ l. span l a b) (drop_at (manifest_starts limit s) (manifest_entries limit s) 12 (starts-twelve s))

  -- the words of the list at a place
  table_at : (i : ℕ) → i < 11 → unfold manifest in Table (pick lists i) s (span index (12 + sum (take i (counts lists (manifest_of s).1))) (12 + sum (take (suc i) (counts lists (manifest_of s).1)))) (picked lists (manifest_of s).1 i)
  unfolding manifest table_start
  table_at i h =
      let n = counts lists (manifest_of s).1 in
      rw (entries-span (sum (take i n)) (sum (take (suc i) n)) (omega (arith, sum-le n (suc i) 11 (omega arith))))
      (table-picked s t.bytes lists (manifest_entries limit s) (manifest_of s).1 i (omega arith) entries-tables)

  pub table-enums : Table enums s (table_of 2 s index) (enums_of (manifest_of s))
  unfolding manifest table_start enums_of
  table-enums = table_at 0 (omega arith)

  pub table-blocks : Table blocks s (table_of 3 s index) (blocks_of (manifest_of s))
  unfolding manifest table_start blocks_of
  table-blocks = table_at 1 (omega arith)

  pub table-connectors : Table connectors s (table_of 4 s index) (connectors_of (manifest_of s))
  unfolding manifest table_start connectors_of
  table-connectors = table_at 2 (omega arith)

  pub table-connections : Table connections s (table_of 5 s index) (connections_of (manifest_of s))
  unfolding manifest table_start connections_of
  table-connections = table_at 3 (omega arith)

  pub table-schedule : Table schedule s (table_of 6 s index) (schedule_of (manifest_of s))
  unfolding manifest table_start schedule_of
  table-schedule = table_at 4 (omega arith)

  pub table-order : Table connector_order s (table_of 7 s index) (connector_order_of (manifest_of s))
  unfolding manifest table_start connector_order_of
  table-order = table_at 5 (omega arith)

  pub table-drivers : Table driver_of s (table_of 8 s index) (drivers_of (manifest_of s))
  unfolding manifest table_start drivers_of
  table-drivers = table_at 6 (omega arith)

  pub table-slots : Table state_slots s (table_of 9 s index) (slots_of (manifest_of s))
  unfolding manifest table_start slots_of
  table-slots = table_at 7 (omega arith)

  pub table-externals : Table external_inputs s (table_of 10 s index) (external_inputs_of (manifest_of s))
  unfolding manifest table_start external_inputs_of
  table-externals = table_at 8 (omega arith)

  pub table-outputs : Table boundary_outputs s (table_of 11 s index) (boundary_outputs_of (manifest_of s))
  unfolding manifest table_start boundary_outputs_of
  table-outputs = table_at 9 (omega arith)

  pub table-inputs : Table input_definitions s (table_of 12 s index) (input_definitions_of (manifest_of s))
  unfolding manifest table_start input_definitions_of
  table-inputs = table_at 10 (omega arith)

-- ---- where the tables stand
-- one behind the other
pub record Rows (m : El manifest) : Type 0 where
  pub first : table_start 2 m ≡ 12
  pub enums : table_start 3 m ≡ table_start 2 m + length (enums_of m)
  pub blocks : table_start 4 m ≡ table_start 3 m + length (blocks_of m)
  pub connectors : table_start 5 m ≡ table_start 4 m + length (connectors_of m)
  pub connections : table_start 6 m ≡ table_start 5 m + length (connections_of m)
  pub schedule : table_start 7 m ≡ table_start 6 m + length (schedule_of m)
  pub order : table_start 8 m ≡ table_start 7 m + length (connector_order_of m)
  pub drivers : table_start 9 m ≡ table_start 8 m + length (drivers_of m)
  pub slots : table_start 10 m ≡ table_start 9 m + length (slots_of m)
  pub externals : table_start 11 m ≡ table_start 10 m + length (external_inputs_of m)
  pub outputs : table_start 12 m ≡ table_start 11 m + length (boundary_outputs_of m)
  pub inputs : table_start 13 m ≡ table_start 12 m + length (input_definitions_of m)

pub rows : (m : El manifest) → Rows m
unfolding manifest table_start sum counts enums_of blocks_of connectors_of connections_of schedule_of connector_order_of drivers_of slots_of external_inputs_of boundary_outputs_of input_definitions_of
rows m = record {
  first = omega arith;
  enums = omega arith;
  blocks = omega arith;
  connectors = omega arith;
  connections = omega arith;
  schedule = omega arith;
  order = omega arith;
  drivers = omega arith;
  slots = omega arith;
  externals = omega arith;
  outputs = omega arith;
  inputs = omega arith;
}

-- the room behind the tables: for marks of classes, blocks and connectors, and to sort connectors, slots, external inputs or boundary outputs
all-rows : (m : El manifest) → table_start 13 m ≡ 12 + length (enums_of m) + length (blocks_of m) + length (connectors_of m) + length (connections_of m) + length (schedule_of m)
    + length (connector_order_of m) + length (drivers_of m) + length (slots_of m) + length (external_inputs_of m) + length (boundary_outputs_of m) + length (input_definitions_of m)
unfolding manifest table_start sum counts enums_of blocks_of connectors_of connections_of schedule_of connector_order_of drivers_of slots_of external_inputs_of boundary_outputs_of input_definitions_of
all-rows m = omega arith

half : (n l a : ℕ) → index_words n ≤ l → 2 * a ≤ n + 31 → a ≤ l
half n l a h k = omega arith

-- half as many words as there are bytes, and some
sizes : {s : List ℕ} → Well limit manifest s 0 → past manifest s 0 ≡ length s → 2 * room_end s ≤ length s + 31
sizes {s} w e =
    let size = sections-take limit s w.reads in
    let row = all-rows (manifest_of s) in
    rw (row, ← e) (omega (arith, size))

pub room-bytes : {s index : List ℕ} → Laid s index → 2 * room_end s ≤ length s + 31
room-bytes t = sizes t.well t.whole

pub room : {s index : List ℕ} → Tabled s index → room_end s ≤ length index
room {s} {index} t = half (length s) (length index) _ t.long (sizes t.well t.whole)

-- ---- the tables alone
pub laid_of : {s index : List ℕ} → Tabled s index → Laid s index
laid_of t = record { bytes = t.bytes; short = t.short; well = t.well; whole = t.whole; there = omega (arith, room t); words = t.words }

-- the starts are the first words
pub laid_started : {s index : List ℕ} → Laid s index → Started s index
laid_started {s} {index} t =
    let f : 12 ≤ room_start s = omega (arith, all-rows (manifest_of s)) in
    record {
      well = t.well;
      long = omega (arith, f, t.there);
      starts =
          sym (take-take 12 (room_start s) index f) ∙ ap (take 12) t.words ∙ take_at (manifest_starts limit s) (manifest_entries limit s) 12 (starts-twelve s);
    }

-- split off from the room behind them
pub laid_front : {s index : List ℕ} → Tabled s index → Laid s (take (room_start s) index)
laid_front {s} {index} t = record {
  bytes = t.bytes;
  short = t.short;
  well = t.well;
  whole = t.whole;
  there = omega (arith, length-take (room_start s) index, room t);
  words = take-take (room_start s) (room_start s) index (omega arith) ∙ t.words;
}

-- whatever becomes of the room
pub leaves_front : {s old new : List ℕ} → Tabled s old → take (room_start s) new ≡ take (room_start s) old → length new ≡ length old → Leaves s old new
leaves_front t e l = record {
  tabled = record { bytes = t.bytes; short = t.short; well = t.well; whole = t.whole; words = e ∙ t.words; long = rw l t.long };
  long = l;
}

pub leaves_split : {s old : List ℕ} (r : List ℕ) → Tabled s old → length r ≡ length (drop (room_start s) old) → Leaves s old (take (room_start s) old ++ r)
leaves_split {s} {old} r t l =
    leaves_front t
    (take_at (take (room_start s) old) r (room_start s) (omega (arith, length-take (room_start s) old, room t)))
    (omega (arith, length-append (take (room_start s) old) r, length-take (room_start s) old, length-drop (room_start s) old, room t, l))

-- the room behind them is long enough
pub room_behind : {s index : List ℕ} → Tabled s index → room_end s ≤ room_start s + length (drop (room_start s) index)
room_behind {s} {index} t = omega (arith, length-drop (room_start s) index, room t)

-- ---- how far the tables reach
sum-next : (ns : List ℕ) (i : ℕ) → sum (take (suc i) ns) ≡ sum (take i ns) + get_or ns i 0
unfolding sum
sum-next [] zero = refl
sum-next [] (suc i) = refl
sum-next (n ∷ ns) zero = omega arith
sum-next (n ∷ ns) (suc i) = omega (arith, sum-next ns i)

lists-counts : (s : List ℕ) (es : List Section) (at : ℕ) → Well limit (sequence (map counted es)) s at → (i : ℕ) → i < length es
    → get_or (counts es (value_at (sequence (map counted es)) s at)) i 0 ≡ number_at 4 s (get_or (section_starts limit (map counted es) s at) i 0)
unfolding counts value_at section_starts
lists-counts s [] at w i h = absurd (omega arith)
lists-counts s (e ∷ es) at w zero h = values_length (value_at e.key s) (value_at e.rest s) (past e.key s) (past e.rest s) (number_at 4 s at) _
lists-counts s (e ∷ es) at w (suc i) h =
    let p = well-then limit s (counted e) (sequence (map counted es)) at w in
    rw (end-got limit (counted e) s at p.0.reads) (lists-counts s es (past (counted e) s at) p.1 i (omega arith))

pub start-le : (m : El manifest) (k : ℕ) → k ≤ 13 → table_start k m ≤ table_start 13 m
unfolding manifest table_start
start-le m k h = omega (arith, sum-le (counts lists m.1) (k - 2) 11 (omega arith))

pub start_next : (m : El manifest) (k : ℕ) → k ≤ 12 → table_start k m ≤ table_start (suc k) m
unfolding manifest table_start
start_next m k h = omega (arith, sum-le (counts lists m.1) (k - 2) (suc k - 2) (omega arith))

-- every table stands within the index
pub start_there : {s index : List ℕ} → Laid s index → (k : ℕ) → k ≤ 13 → table_start k (manifest_of s) ≤ length index
start_there {s} t k h = omega (arith, t.there, start-le (manifest_of s) k h)

-- how long one is
pub table_long : {s index : List ℕ} → Laid s index → (k : ℕ) → k ≤ 12 → length (table_of k s index) ≡ table_start (suc k) (manifest_of s) - table_start k (manifest_of s)
table_long {s} {index} t k h =
    span-length index (table_start k (manifest_of s)) (table_start (suc k) (manifest_of s)) (start_next (manifest_of s) k h) (start_there t (suc k) (omega arith))

-- ---- the loop that adds up the counts of the sections before one
pub record Reaching (s index : List ℕ) (section w k : ℕ) : Type 0 where
  pub laid : Laid s index
  pub bound : section ≤ 13
  pub from : 2 ≤ k
  pub below : k ≤ 2 + (section - 2)
  pub is : w ≡ table_start k (manifest_of s)

module _ {s index : List ℕ} where
  pub reach_start : (section : ℕ) → Laid s index → section ≤ 13 → Reaching s index section 12 2
  reach_start section t h = record { laid = t; bound = h; from = omega arith; below = omega arith; is = sym (rows (manifest_of s)).first }

  -- the section whose place is i among the lists counts as many entries as its table has words
  count-there : Laid s index → (i : ℕ) → i < 11 → table_start (3 + i) (manifest_of s) ≡ table_start (2 + i) (manifest_of s) + number_at 4 s (get_or index (suc i) 0)
  unfolding manifest table_start value_at
  count-there t i h =
      let c = lists-counts s lists (past portability s 0) (well-then limit s portability (sequence (map counted lists)) 0 t.well).1 i (omega arith) in
      let a : 3 + i - 2 ≡ suc i = omega arith in
      let b : 2 + i - 2 ≡ i = omega arith in
      rw (a, b, ← word-there (laid_started t) (suc i) (omega arith), starts-list s t.well i, ← c) (ap (λ (x : ℕ). 12 + x) (sum-next (counts lists (manifest_of s).1) i) ∙ omega arith)

  pub reach_next : {section w k p n : ℕ} → Reaching s index section w k → k < section → p ≡ get_or index (k - 1) 0 → n ≡ number_at 4 s p → Reaching s index section (w + n) (k + 1)
  reach_next {section} {w} {k} {p} {n} r h e f =
      let i : k ≡ 2 + (k - 2) = omega (arith, r.from) in
      let j : k - 1 ≡ suc (k - 2) = omega (arith, r.from) in
      let l : k + 1 ≡ 3 + (k - 2) = omega (arith, r.from) in
      let c = count-there r.laid (k - 2) (omega (arith, r.bound)) in
      record {
        laid = r.laid;
        bound = r.bound;
        from = omega (arith, r.from);
        below = omega (arith, r.below);
        is = rw (l, c, f, e, j, r.is) (ap (λ (x : ℕ). table_start x (manifest_of s) + number_at 4 s (get_or index (suc (k - 2)) 0)) i);
      }

  pub reach_end : {section w k : ℕ} → Reaching s index section w k → section ≤ k → w ≡ table_start section (manifest_of s)
  unfolding table_start
  reach_end {section} {w} {k} r h = let e : k - 2 ≡ section - 2 = omega (arith, r.from, r.below) in rw (← e) r.is

  -- no table reaches further than half of the bytes, so no sum overflows
  pub reach_fits : {section w k : ℕ} → Reaching s index section w k → w < 2 ^ 64
  reach_fits {section} {w} {k} r =
      let e : w ≤ room_start s = rw r.is (start-le (manifest_of s) k (omega (arith, r.below, r.bound))) in
      omega (arith, room-bytes r.laid, r.laid.short)

  -- the word that says where a section starts is in front of all tables
  pub reach_word : {section w k : ℕ} → Reaching s index section w k → k < section → k - 1 < length index
  reach_word {section} {w} {k} r h = omega (arith, all-rows (manifest_of s), r.laid.there, r.bound)
