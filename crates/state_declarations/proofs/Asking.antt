-- Questions 11 to 16 of the manifest that was read.
use Prim.Native.Nat.{ℕ, ◌+◌, ◌≤◌}
use native.Mathlib.Omega.{arith}
use mathlib.Core.Path.{◌≡◌, sym, ap, ◌∙◌}
use mathlib.Core.Bool.{Bool, true, false, and_comm}
use mathlib.Core.List.{List, [], ◌∷◌, ◌++◌, map}
use lib.ListN.{length}
use Rattle.std.specs.Prelude.{Result, Ok, Err}
use Rattle.state.specs.declared.Question.{Question}
use Rattle.state.specs.Outcome.{said}
use Rattle.format.specs.Admits.{All}
use Rattle.format.specs.Format.{El}
use Rattle.format.specs.Manifest.{entry, enums, blocks, connectors, manifest}
use Rattle.format.specs.Fields.{enums_of, blocks_of, connectors_of}
use Rattle.format.specs.Values.{value_at, Well}
use Rattle.questions.specs.Sets.{all, all_in, gather, same_set, ◌unless◌, first}
use Rattle.questions.specs.Declarations.{has_member, block_answer, ports_are, classes_are, declarations}
use Rattle.questions.proofs.Chains.{answered-yes, answered-no}
use Rattle.state_layout.specs.Tables.{manifest_of, table_of, room_start, room_end, Laid, Table}
use Rattle.state_layout.specs.Keys.{keys_of, classes_of}
use Rattle.state_layout.proofs.Tables.{limit}
use Rattle.state_layout.proofs.Names.{names-connectors, paths-enums}
use Rattle.state_layout.proofs.Indexed.{table-enums, table-blocks, table-connectors, rows, table_long}
use Rattle.state_declarations.specs.Each.{ports_named, classes_named, type_named}
use Rattle.state_declarations.proofs.Parts.{all-ports, all-classes, all-types}

same-turned : (ks ls : List (List ℕ)) → same_set ks ls ≡ same_set ls ks
unfolding same_set
same-turned ks ls = and_comm (all_in ks ls) (all_in ls ks)

-- the words es, bs and cs list the classes, the blocks and the connectors; what was answered of them, in order, and the first no
module _ {s tables : List ℕ} (t : Laid s tables) {u es : List ℕ} (e : (u ≡ s) × (es ≡ table_of 2 s tables)) where
  abbrev whole : El manifest
  whole = manifest_of s

  abbrev answered : Result Unit Question
  answered = said (first (declarations whole))

  classes-there : Table enums s es (enums_of whole)
  classes-there = rw e.1 (table-enums t)

  pub classes_fit : {n : ℕ} → room_end s ≤ room_start s + n → length es ≤ n
  classes_fit l = let a = ap length e.1 ∙ table_long t 2 (omega arith) in let r = rows whole in omega arith

  pub blocks_well : {bs : List ℕ} → bs ≡ table_of 3 s tables → All (Well limit (entry blocks) u) bs
  blocks_well b = rw (e.0, b) (table-blocks t).well

  module _ {x : Bool} (ex : x ≡ all has_member (classes_of s es)) where
    members : all has_member (enums_of whole) ≡ x
    members = sym (ex ∙ ap (all has_member) classes-there.values)

    pub no_11 : x ≡ false → Err (record { 0 = 11 }) ≡ answered
    unfolding declarations first ◌unless◌
    no_11 h = rw (members, h)

    module _ (hx : x ≡ true) {bs : List ℕ} (b : bs ≡ table_of 3 s tables) {r : Result Unit Question}
        (er : r ≡ said (first (map (block_answer (classes_of u es)) (map (value_at (entry blocks) u) bs)))) where
      blocks-there : Table blocks s bs (blocks_of whole)
      blocks-there = rw b (table-blocks t)

      abbrev of_blocks : ℕ
      of_blocks = first (map (block_answer (enums_of whole)) (blocks_of whole))

      blocks-are : r ≡ said of_blocks
      blocks-are = er ∙ rw (e.0, classes-there.values, blocks-there.values)

      abbrev behind : List ℕ
      behind = 15 unless (ports_are (blocks_of whole) (connectors_of whole)) ∷ 16 unless (classes_are (enums_of whole) (blocks_of whole) (connectors_of whole)) ∷ []

      pub no_block : {d : Question} → r ≡ Err d → Err d ≡ answered
      unfolding declarations first ◌unless◌
      no_block h = rw (members, hx) (answered-no of_blocks blocks-are h behind)

      module _ (hr : r ≡ Ok tt) {v cs : List ℕ} (f : (v ≡ s) × (cs ≡ table_of 4 s tables)) {y : Bool} (ey : y ≡ same_set (gather (ports_named v) bs) (keys_of connectors v cs)) where
        left : first (declarations whole) ≡ first behind
        unfolding declarations first ◌unless◌
        left = rw (members, hx) (sym (answered-yes of_blocks blocks-are hr behind))

        connectors-there : Table connectors s cs (connectors_of whole)
        connectors-there = rw f.1 (table-connectors t)

        ports-same : ports_are (blocks_of whole) (connectors_of whole) ≡ y
        unfolding ports_are
        ports-same = sym (ey ∙ rw (f.0, all-ports s t.bytes bs blocks-there.well, blocks-there.values, names-connectors t.bytes connectors-there))

        pub no_15 : y ≡ false → Err (record { 0 = 15 }) ≡ answered
        unfolding first ◌unless◌
        no_15 h = rw (left, ports-same, h)

        module _ (hy : y ≡ true) {z : Bool} (ez : z ≡ same_set (gather (classes_named u) bs ++ gather (type_named u) cs) (keys_of enums u es)) where
          classes-same : classes_are (enums_of whole) (blocks_of whole) (connectors_of whole) ≡ z
          unfolding classes_are
          classes-same =
              sym (ez
              ∙ rw (e.0, all-classes s bs, all-types s cs, blocks-there.values, connectors-there.values, paths-enums classes-there) (same-turned _ _))

          pub no_16 : z ≡ false → Err (record { 0 = 16 }) ≡ answered
          unfolding first ◌unless◌
          no_16 h = rw (left, ports-same, hy, classes-same, h)

          pub all_yes : z ≡ true → Ok tt ≡ answered
          unfolding first ◌unless◌
          all_yes h = rw (left, ports-same, hy, classes-same, h)

pub connectors_fit : {s tables : List ℕ} → Laid s tables → {v cs : List ℕ} → (v ≡ s) × (cs ≡ table_of 4 s tables) → {n : ℕ} → room_end s ≤ room_start s + n → length cs ≤ n
connectors_fit {s} t f l = let a = ap length f.1 ∙ table_long t 4 (omega arith) in let r = rows (manifest_of s) in omega arith

pub ruleset asked = (classes_fit, connectors_fit, blocks_well, no_11, no_block, no_15, no_16, all_yes)
