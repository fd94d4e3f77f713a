-- Refusals of the Rust that cannot arise: document 01, "for connector values, a missing enum class or differing key set can't arise after these
-- questions; that is proved".
use Prim.Native.Nat.{ℕ}
use mathlib.Core.Path.{◌≡◌, sym, ◌∙◌}
use mathlib.Core.Bool.{Bool, true, false, not, ◌&&◌, or-true, true≢false, false≢true}
use mathlib.Core.List.{List, [], ◌∷◌, ◌++◌, map}
use lib.ListN.{length, length-map}
use Rattle.std.proofs.lemmas.Bool.{and_parts as both, or_parts as neither}
use Rattle.state_wire.specs.Fields.{max_snapshot_bytes}
use Rattle.format.specs.Lists.{same, is_in}
use Rattle.format.specs.Format.{El, encode}
use Rattle.format.specs.Keys.{connector_key}
use Rattle.format.specs.Manifest.{value, counted, enums, connectors, manifest}
use Rattle.format.specs.Fields.{Entry, enums_of, blocks_of, connectors_of, enum_path, value_type_of, type_class, value_class, ordinal}
use Rattle.format.specs.Admits.{Holds}
use Rattle.format.proofs.Lists.{same_true, same_of}
use Rattle.questions.specs.Sets.{all, any, gather, all_in, same_set, first}
use Rattle.questions.specs.Declarations.{connector_names, in_range, enum_holds, param_classes, classes_are, declarations}
use Rattle.questions.specs.References.{is_known}
use Rattle.questions.specs.Inputs.{has_type}
use Rattle.questions.proofs.Chains.{first-none, unless-none}
use Rattle.questions.proofs.Sets.{or_cases, and_cases, any-weaker, in-cases, all_map, in-front, in_rest}
use Rattle.questions.proofs.Ascends.{Ascends, all-in-self, all-in-others}
use Rattle.verdict.proofs.Words.{keys-ascend, connectors-ascend}
use Rattle.tail.specs.Tail.{values, value_key, value_of, type_is}
use Rattle.tail.proofs.Among.{all-in-front, all-in-back, as_many}

-- ---- a missing enum class
-- the class of a connector's type
abbrev class_of : Entry connectors → List (List ℕ)
class_of c = type_class (value_type_of c)

-- where 35 says yes, the class of a value is that of a connector's type
class-typed : (cs : List (Entry connectors)) (v : Entry values) → type_is cs v ≡ true → all_in (value_class (value_of v)) (gather class_of cs) ≡ true
unfolding type_is any gather has_type
class-typed [] v e = absurd (false≢true e)
class-typed (c ∷ cs) v e =
    or_cases _ (type_is cs v)
    (λ i. all-in-front _ (class_of c) (gather class_of cs) (both _ _ (both _ _ i).1).1)
    (λ i. all-in-back _ (class_of c) (gather class_of cs) (class-typed cs v i))
    e

-- 16: the classes of connectors' types are listed
types-listed : (m : El manifest) → first (declarations m) ≡ 0 → all_in (gather class_of (connectors_of m)) (map enum_path (enums_of m)) ≡ true
unfolding declarations classes_are same_set
types-listed m d =
    let ps : List (List ℕ) = gather param_classes (blocks_of m) in
    let ts : List (List ℕ) = gather class_of (connectors_of m) in
    let c = both (all_in (map enum_path (enums_of m)) (ps ++ ts)) _
    (unless-none 15 _ (first-none _ _ (first-none _ _ (first-none _ _ (first-none _ _ d).1).1).1).0) in
    all-in-others ts (ps ++ ts) _ (all-in-back ts ps ts (all-in-self ts)) c.1

-- where 35 says yes, the class of an enum value is listed
pub class-listed : (m : El manifest) → first (declarations m) ≡ 0 → (v : Entry values) → type_is (connectors_of m) v ≡ true
    → all_in (value_class (value_of v)) (map enum_path (enums_of m)) ≡ true
class-listed m d v e = all-in-others _ (gather class_of (connectors_of m)) _ (class-typed (connectors_of m) v e) (types-listed m d)

-- ---- an ordinal out of range
module _ (r : Entry enums → Bool) where
  -- where a class is listed and no entry of it passes r, an entry of it fails r
  without : (k : List ℕ) (es : List (Entry enums)) → is_in k (map enum_path es) ≡ true → any (λ e. same k (enum_path e) && r e) es ≡ false
      → any (λ e. same k (enum_path e) && not (r e)) es ≡ true
  unfolding is_in any
  without k [] i n = absurd (false≢true i)
  without k (e ∷ es) i n =
      let a = neither (same k (enum_path e) && r e) _ n in
      in-cases k (enum_path e) (map enum_path es)
      (λ h. let s : same k (enum_path e) ≡ true = same_of k (enum_path e) h in let o : r e ≡ false = rw s at a.0 in rw (s, o))
      (λ j. rw (without k es j a.1, or-true))
      i

  -- so it is where one of several listed classes is such a one
  one-without : (ks : List (List ℕ)) (es : List (Entry enums)) → all_in ks (map enum_path es) ≡ true
      → all (λ k. any (λ e. same k (enum_path e) && r e) es) ks ≡ false → any (λ e. is_in (enum_path e) ks && not (r e)) es ≡ true
  unfolding all_in all
  one-without [] es i n = absurd (true≢false n)
  one-without (k ∷ ks) es i n =
      let a = both (is_in k (map enum_path es)) (all_in ks (map enum_path es)) i in
      and_cases (any (λ e. same k (enum_path e) && r e) es) _
      (λ h. any-weaker _ _ (λ e j. let b = both (same k (enum_path e)) (not (r e)) j in rw (← same_true k (enum_path e) b.0, in-front k ks, b.1)) es
      (without k es a.0 h))
      (λ h. any-weaker _ _ (λ e j. let b = both (is_in (enum_path e) ks) (not (r e)) j in rw (in_rest (enum_path e) k ks b.0, b.1)) es
      (one-without ks es a.1 h))
      n

-- where 35 says yes and 36 no, a listed class has the value's path, and the ordinal is not in its range: 36 speaks of the ordinal alone
pub ordinal-alone : (m : El manifest) → first (declarations m) ≡ 0 → (v : Entry values) → type_is (connectors_of m) v ≡ true
    → enum_holds (enums_of m) (value_of v) ≡ false
    → any (λ e. is_in (enum_path e) (value_class (value_of v)) && not (in_range (ordinal (value_of v)) e)) (enums_of m) ≡ true
unfolding enum_holds
ordinal-alone m d v e n = one-without (in_range (ordinal (value_of v))) (value_class (value_of v)) (enums_of m) (class-listed m d v e) n

-- ---- a differing key set
-- the keys of the values, as they are written
abbrev pub value_names : List (Entry values) → List (List ℕ)
value_names vs = map (λ v. encode connector_key (value_key v)) vs

module _ (m : El manifest) (h : Holds max_snapshot_bytes manifest m) (vs : List (Entry values)) (g : Holds max_snapshot_bytes (counted values) vs)
    (l : length vs ≡ length (connectors_of m)) (k : all (λ v. is_known (connector_names (connectors_of m)) (value_key v)) vs ≡ true) where
  -- 9, of values
  values-ascend : Ascends (value_names vs)
  unfolding value_key
  values-ascend = keys-ascend values.least connector_key value vs g

  -- as many values as connectors (33), each with a known key (34): their keys are the connectors', in their order
  pub keys-same : value_names vs ≡ connector_names (connectors_of m)
  unfolding connector_names is_known all_in
  keys-same =
      as_many (value_names vs) (connector_names (connectors_of m)) values-ascend (connectors-ascend m h)
      (all_map (λ n. is_in n (connector_names (connectors_of m))) (λ v. encode connector_key (value_key v)) vs ∙ k)
      (length-map vs _ ∙ l ∙ sym (length-map (connectors_of m) _))

  -- so the two key sets do not differ
  pub key-set-same : same_set (value_names vs) (connector_names (connectors_of m)) ≡ true
  unfolding same_set
  key-set-same = rw (keys-same, all-in-self)
