-- Questions 33 to 36: value by value, and of the manifest's tables.
use Prim.Native.Nat.{ℕ, suc, ◌+◌, ◌-◌, ◌≤◌, ◌<◌, min}
use native.Mathlib.Omega.{arith}
use native.Mathlib.Nat.{min-eq_left}
use mathlib.Core.Path.{◌≡◌, sym, ap, ◌∙◌, subst}
use mathlib.Core.List.{List, ◌∷◌, map}
use lib.ListN.{length, length-map}
use borrow.Author.Tests.{eq-eqb, ne_eqb}
use Rattle.std.specs.Prelude.{Result, Ok, Err}
use Rattle.state.specs.Outcome.{said}
use Rattle.state.specs.declared.Question.{Question}
use Rattle.state_wire.specs.Fields.{max_snapshot_bytes}
use Rattle.format.specs.Format.{late, wire}
use Rattle.format.specs.Keys.{connector_key}
use Rattle.format.specs.Manifest.{value, entry, counted, connectors}
use Rattle.format.specs.Fields.{Entry, enums_of, connectors_of}
use Rattle.format.specs.Places.{number_at, past}
use Rattle.format.specs.Values.{values_at, value_at, Well, WellEach}
use Rattle.format.proofs.Values.{values_length, well-list}
use Rattle.questions.specs.Sets.{first}
use Rattle.questions.specs.Declarations.{connector_names}
use Rattle.questions.proofs.Chains.{answered-yes, answered-no, says-yes, says-no, first_one}
use Rattle.tail.specs.Tail.{values, value_answer, values_answer}
use Rattle.state_layout.specs.Keys.{classes_of}
use Rattle.state_layout.specs.Tables.{manifest_of, table_of, Laid}
use Rattle.state_layout.proofs.Indexed.{table-enums, table-connectors}
use Rattle.state_layout.proofs.Names.{names-connectors}
use Rattle.state_codec.specs.Listed.{connectors_at, Listed}

-- ---- the loop over the values
-- so many values from a position on
abbrev values_from : List ℕ → (n p : ℕ) → List (Entry values)
values_from t n p = values_at (value_at connector_key t) (value_at value t) (past connector_key t) (past value t) n p

-- the whole answer is that of the values left, as many as connectors from place w on
pub record Asking (answer : Entry values → ℕ) (t : List ℕ) (to w p : ℕ) : Type 0 where
  pub is : first (map answer (value_at (counted values) t 0)) ≡ first (map answer (values_from t (to - w) p))
  pub well : WellEach max_snapshot_bytes (entry values) t (to - w) p

module _ (answer : Entry values → ℕ) (t : List ℕ) {to : ℕ} where
  -- before the first value
  pub asking-start : Well max_snapshot_bytes (counted values) t 0 → number_at 4 t 0 ≡ to → {p : ℕ} → p ≡ min (0 + 4) (length t) → Asking answer t to 0 p
  unfolding value_at
  asking-start h n e =
      let l = well-list max_snapshot_bytes t (late wire) connector_key value 4 12 0 h in
      let z : to - 0 ≡ number_at 4 t 0 = omega (arith, n) in
      record {
        is = rw (z, e);
        well = rw (z, e ∙ min-eq_left l.0) l.1;
      }

  module _ {w p : ℕ} (a : Asking answer t to w p) where
    -- behind the last, none said no
    pub asking-end : to ≤ w → 0 ≡ first (map answer (value_at (counted values) t 0))
    unfolding first
    asking-end h = let z : to - w ≡ 0 = omega arith in sym (a.is ∙ rw z)

    module _ (h : w < to) where
      next : to - w ≡ suc (to - (w + 1))
      next = omega arith

      left : WellEach max_snapshot_bytes (entry values) t (suc (to - (w + 1))) p
      left = subst (λ (n : ℕ). WellEach max_snapshot_bytes (entry values) t n p) next a.well

      -- the next value was read
      pub asking-well : Well max_snapshot_bytes (entry values) t p
      asking-well = left.0

      turned : first (map answer (value_at (counted values) t 0)) ≡ first (answer (value_at (entry values) t p) ∷ map answer (values_from t (to - (w + 1)) (past value t (past connector_key t p))))
      unfolding value_at
      turned = a.is ∙ rw next

      module _ {r : Result Unit Question} (e : r ≡ said (answer (value_at (entry values) t p))) where
        -- a value that says no is the answer
        pub asking-stops : {d : Question} → r ≡ Err d → Err d ≡ said (first (map answer (value_at (counted values) t 0)))
        asking-stops n = answered-no _ e n _ ∙ ap said (sym turned)

        -- one that says yes leaves the rest
        pub asking-on : {u : Unit} → r ≡ Ok u → {k p' : ℕ} → k ≡ past connector_key t p → p' ≡ past value t k → Asking answer t to (w + 1) p'
        unfolding past
        asking-on y i j = record {
          is = turned ∙ rw (j, i) (sym (answered-yes _ e y _));
          well = rw (j, i) left.1;
        }

-- for `values_answer`
pub ruleset asking = (asking-well, asking-stops, asking-end)

-- ---- of the manifest
module _ {s tables : List ℕ} (l : Laid s tables) {words : List ℕ} (ek : words ≡ table_of 4 s tables) where
  pub listed : Listed s words
  listed = let k = table-connectors l in rw ek (names-connectors l.bytes k ∙ ap connector_names (sym k.values))

  connectors-are : connectors_at s words ≡ connectors_of (manifest_of s)
  connectors-are = rw ek (table-connectors l).values

  -- they are so many
  connectors-count : length words ≡ length (connectors_of (manifest_of s))
  connectors-count = sym (length-map words (value_at (entry connectors) s)) ∙ ap length connectors-are

  module _ (t : List ℕ) {n : ℕ} (counts : n ≡ number_at 4 t 0) where
    long : length (value_at (counted values) t 0) ≡ n
    unfolding value_at
    long = values_length (value_at connector_key t) (value_at value t) (past connector_key t) (past value t) (number_at 4 t 0) _ ∙ sym counts

    -- more or fewer
    pub values-miscounted : (n ≡ length words → ⊥) → 33 ≡ values_answer (enums_of (manifest_of s)) (connectors_of (manifest_of s)) (value_at (counted values) t 0)
    unfolding values_answer
    values-miscounted h = says-no 32 _ (rw (long, ← connectors-count) (ne_eqb n (length words) h))

    -- as many
    pub values-answered : n ≡ length words → {cs : List ℕ} → cs ≡ table_of 2 s tables
        → first (map (value_answer (classes_of s cs) (connectors_at s words)) (value_at (counted values) t 0))
        ≡ values_answer (enums_of (manifest_of s)) (connectors_of (manifest_of s)) (value_at (counted values) t 0)
    unfolding values_answer
    values-answered h e =
        rw (e, (table-enums l).values, connectors-are) (sym (says-yes 33 _ (rw (long, ← connectors-count) (eq-eqb n (length words) h)) ∙ first_one _))

-- for `validate_values`
pub ruleset counted_values = (listed, values-miscounted, values-answered)
