-- What holds of an accepted snapshot: its values have the connectors' keys, each as questions 34 to 36 ask and of a listed class, there are as many
-- words as demand 3's sum, and the tail is its bytes as they would be written again.
use Prim.Native.Nat.{ℕ}
use native.Mathlib.Omega.{arith}
use native.Mathlib.Nat.{sub-zero}
use mathlib.Core.Path.{◌≡◌, sym, ◌∙◌}
use mathlib.Core.Bool.{true}
use mathlib.Core.List.{List, ◌++◌, map}
use lib.ListN.{length}
use lib.Seq.{take-length}
use borrow.Author.Tests.{eqb-true}
use Rattle.state.specs.Bytes.{AreBytes, span}
use Rattle.state.specs.Outcome.{got}
use Rattle.state.proofs.Bytes.{part_join}
use Rattle.state_wire.specs.Fields.{max_snapshot_bytes}
use Rattle.format.specs.Format.{El, encode}
use Rattle.format.specs.Manifest.{counted, manifest}
use Rattle.format.specs.Fields.{Entry, enums_of, connectors_of, enum_path, value_class}
use Rattle.format.specs.Admits.{All, Holds}
use Rattle.format.proofs.Sound.{Stands, read-sound}
use Rattle.questions.specs.Sets.{all_in, first}
use Rattle.questions.specs.Declarations.{connector_names, enum_holds, declarations}
use Rattle.questions.specs.References.{is_known}
use Rattle.questions.proofs.Chains.{first-none, unless-none, each_none}
use Rattle.questions.proofs.Kept.{all_so, each_all}
use Rattle.questions.proofs.Accepted.{declarations-say-yes, slots-say-yes}
use Rattle.verdict.specs.Demand3.{state_words}
use Rattle.verdict.proofs.Words.{words-held}
use Rattle.verdict.proofs.Unreachable.{AllYes, accepted-yes}
use Rattle.tail.specs.Tail.{values, words, flags, value_key, value_of, type_is, value_answer, values_answer}
use Rattle.tail.specs.Answers.{judge_tail}
use Rattle.tail.proofs.Tells.{word_count, no_flags, TailRead, snapshot-tells}
use Rattle.tail.proofs.Unreachable.{class-listed, value_names, keys-same}

-- ---- values
-- what holds of a value: its key is known (34), its type is the connector's (35), its ordinal is in range (36), its class is listed
pub record ValueHolds (m : El manifest) (v : Entry values) : Type 0 where
  pub known : is_known (connector_names (connectors_of m)) (value_key v) ≡ true
  pub typed : type_is (connectors_of m) v ≡ true
  pub ranged : enum_holds (enums_of m) (value_of v) ≡ true
  pub listed : all_in (value_class (value_of v)) (map enum_path (enums_of m)) ≡ true

-- so it is where 34 to 36 say yes
value-holds : (m : El manifest) → first (declarations m) ≡ 0 → (v : Entry values) → value_answer (enums_of m) (connectors_of m) v ≡ 0 → ValueHolds m v
unfolding value_answer
value-holds m d v e =
    let a = first-none _ _ e in
    let b = first-none _ _ a.1 in
    let t = unless-none 34 _ b.0 in
    record { known = unless-none 33 _ a.0; typed = t; ranged = unless-none 35 _ (first-none _ _ b.1).0; listed = class-listed m d v t }

-- there are as many as connectors (33), and it is so of each
values-hold : (m : El manifest) → first (declarations m) ≡ 0 → (vs : List (Entry values)) → values_answer (enums_of m) (connectors_of m) vs ≡ 0
    → (length vs ≡ length (connectors_of m)) × All (ValueHolds m) vs
unfolding values_answer
values-hold m d vs e =
    let a = first-none _ _ e in
    (eqb-true _ _ (unless-none 32 _ a.0), all_so (value-holds m d) vs (each_none _ vs (first-none _ _ a.1).0))

-- ---- snapshots
-- what holds of an accepted snapshot's manifest and tail
pub record SnapshotHolds (m : El manifest) (t : List ℕ) : Type 0 where
  pub tail : TailRead m t (length t)
  pub keys : value_names tail.vs ≡ connector_names (connectors_of m)
  pub each : All (ValueHolds m) tail.vs
  -- 37's total is the sum of demand 3
  pub total : word_count tail.ws ≡ state_words m
  pub written : t ≡ encode (counted values) tail.vs ++ (encode words tail.ws ++ encode flags no_flags)

module _ (t : List ℕ) (bytes : AreBytes t) {m : El manifest} (r : TailRead m t (length t)) where
  -- the values stand at its start, and the format admits them
  values-stand : Stands t 0 r.p (encode (counted values) r.vs) (Holds max_snapshot_bytes (counted values) r.vs)
  values-stand = read-sound max_snapshot_bytes t bytes (counted values) 0 r.vs r.p (omega arith) r.values-read

  -- the tail is written as it was read
  tail_written : t ≡ encode (counted values) r.vs ++ (encode words r.ws ++ encode flags no_flags)
  tail_written =
      let a = values-stand in
      let b = read-sound max_snapshot_bytes t bytes words r.p r.ws r.q a.part.within r.words-read in
      let c = read-sound max_snapshot_bytes t bytes flags r.q no_flags (length t) b.part.within r.flags-read in
      let whole : span t 0 (length t) ≡ t = rw (sub-zero (length t), take-length t) in
      sym whole ∙ (part_join t a.part (part_join t b.part c.part)).is

-- an accepted snapshot is such a one
pub snapshot-holds : (bound : List (List ℕ)) (revision : ℕ) (s t : List ℕ) (w : ℕ) → AreBytes s → AreBytes t → {m : El manifest} {n : ℕ}
    → judge_tail bound revision s t w ≡ got m n → SnapshotHolds m t
snapshot-holds bound revision s t w bs bt {m} e =
    let a = snapshot-tells bound revision s t w e in
    let r : TailRead m t (length t) = a.1 in
    let y : AllYes m = accepted-yes bound s revision w bs a.0 in
    let v = values-hold m (declarations-say-yes y.bound y.revision m y.none) r.vs r.none in
    record {
      tail = r;
      keys = keys-same m y.holds r.vs (values-stand t bt r).holds v.0 (each_all _ r.vs (all_so (λ _ h. h.known) r.vs v.1));
      each = v.1;
      total = r.total ∙ (words-held m y.holds (slots-say-yes y.bound y.revision m y.none)).total;
      written = tail_written t bt r;
    }
