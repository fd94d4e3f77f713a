-- What stands where in blocks, values and value types.
use Prim.Native.Nat.{ℕ, zero, suc, ◌+◌, min}
use native.Mathlib.Omega.{arith}
use native.Mathlib.Nat.{min-eq_left}
use mathlib.Core.Path.{◌≡◌, refl, sym, ap, ◌∙◌}
use mathlib.Core.Bool.{Bool, true, false, cond, not, beq, ◌&&◌}
use mathlib.Core.List.{List, [], ◌∷◌, map}
use lib.ListN.{length, get_or}
use lib.Dec.{eqb, ltb}
use borrow.Author.Tests.{lt-ltb, eq-eqb, ne_eqb}
use Rattle.state.specs.Bytes.{AreBytes, span}
use Rattle.format.specs.Lists.{same}
use Rattle.format.specs.Admits.{All}
use Rattle.format.specs.Format.{number, text, done, free, ◌then◌}
use Rattle.format.specs.Keys.{block_key, connector_key, wire_dir, owner, direction, port_index}
use Rattle.format.specs.Manifest.{value_type, value, members, params, connector_keys, block_head, block_rest, connector_rest, entry, enums, blocks, connectors}
use Rattle.format.specs.Fields.{Entry, block_key_of, kind, state_revision, state_len, params_of, inputs, outputs, members_of, value_type_of, type_class, value_class}
use Rattle.format.specs.Places.{number_at, past}
use Rattle.format.specs.Values.{value_at, values_at, Well, WellEach}
use Rattle.format.proofs.Values.{values_length, well-then, well-list, written}
use Rattle.questions.specs.Sets.{all, gather}
use Rattle.questions.specs.Declarations.{has_member, is_stateful, kind_holds, enum_holds, params_hold, port_holds, ports_hold, port_names, block_ports, param_classes}
use Rattle.state_layout.proofs.Tables.{limit}
use Rattle.state_layout.proofs.Choosing.{typed, typed-class, value-class}
use Rattle.state_declarations.specs.Each.{each_from, each_in, names_from, params_at, inputs_at, outputs_at, has_class, is_port, are_ports, keys_named, ports_named, class_at, classes_named, type_named}

agrees : (t n m : Bool) → beq (not n) t ≡ true → cond t (not n && not m) (n && m) ≡ beq (not m) t
agrees true true m h = cc
agrees true false true h = refl
agrees true false false h = refl
agrees false true true h = refl
agrees false true false h = refl
agrees false false m h = cc

differs : (t n m : Bool) → beq (not n) t ≡ false → cond t (not n && not m) (n && m) ≡ false
differs true true m h = refl
differs true false m h = cc
differs false true m h = cc
differs false false m h = refl

module _ (s : List ℕ) where
  -- ---- a class
  member-there : (q : ℕ) → has_member (value_at (entry enums) s q) ≡ ltb 0 (number_at 4 s (past text s q))
  unfolding has_member members_of members value_at
  member-there q = rw (values_length (value_at text s))

  unfoldable pub has_member_at : ℕ → Bool
  has_member_at q = has_member (value_at (entry enums) s q)

  module _ (q : ℕ) {e n : ℕ} (i : e ≡ past text s q) (j : n ≡ number_at 4 s e) where
    pub members_none : n ≡ 0 → has_member_at q ≡ false
    unfolding has_member_at
    members_none z = member-there q ∙ rw (← i, ← j, z)

    pub members_some : (n ≡ 0 → ⊥) → has_member_at q ≡ true
    unfolding has_member_at
    members_some z = member-there q ∙ rw (← i, ← j) (lt-ltb 0 n (omega arith))

  pub members-map : (words : List ℕ) → all has_member_at words ≡ all has_member (map (value_at (entry enums) s) words)
  unfolding all has_member_at
  members-map [] = refl
  members-map (q ∷ words) = ap (λ b. has_member (value_at (entry enums) s q) && b) (members-map words)

  -- ---- a block, whose kind stands at k, its revision at r and its state length at l
  module _ (at : ℕ) {k r l t n : ℕ} (ek : k ≡ past text s (past block_key s at)) (er : r ≡ min (k + 1) (length s)) (el : l ≡ min (r + 4) (length s)) (et : t ≡ get_or s k 0) (en : n ≡ number_at 4 s r) where
    kind-is : kind_holds (value_at (entry blocks) s at) ≡ cond (eqb t 1) (not (eqb n 0) && not (eqb (number_at 8 s l) 0)) (eqb n 0 && eqb (number_at 8 s l) 0)
    unfolding kind_holds is_stateful kind state_revision state_len block_rest block_head value_at past
    kind-is = rw (et, en, el, er, ek)

    -- the revision agrees with the kind, or not
    pub kind_agrees : {m : ℕ} → m ≡ number_at 8 s l → beq (not (eqb n 0)) (eqb t 1) ≡ true → beq (not (eqb m 0)) (eqb t 1) ≡ kind_holds (value_at (entry blocks) s at)
    kind_agrees {m} em h = sym (kind-is ∙ rw (← em) (agrees (eqb t 1) (eqb n 0) (eqb m 0) h))

    pub kind_differs : beq (not (eqb n 0)) (eqb t 1) ≡ false → beq (not (eqb n 0)) (eqb t 1) ≡ kind_holds (value_at (entry blocks) s at)
    kind_differs h = h ∙ sym (kind-is ∙ differs (eqb t 1) (eqb n 0) (eqb (number_at 8 s l) 0) h)

  pub key-at : (at : ℕ) → block_key_of (value_at (entry blocks) s at) ≡ value_at block_key s at
  unfolding block_key_of value_at
  key-at at = refl

  pub inputs-at : (at : ℕ) → inputs (value_at (entry blocks) s at) ≡ value_at connector_keys s (inputs_at s at)
  unfolding inputs block_rest value_at
  inputs-at at = refl

  pub outputs-at : (at : ℕ) → outputs (value_at (entry blocks) s at) ≡ value_at connector_keys s (outputs_at s at)
  unfolding outputs block_rest value_at
  outputs-at at = refl

  module _ (at : ℕ) (w : Well limit (entry blocks) s at) where
    pub key-well : Well limit block_key s at
    key-well = (well-then limit s block_key block_rest at w).0

    lists-well : Well limit (connector_keys then connector_keys) s (inputs_at s at)
    unfolding block_rest
    lists-well =
        let rest = (well-then limit s block_key block_rest at w).1 in
        let lists = (well-then limit s block_head (params then connector_keys then connector_keys) (past block_key s at) rest).1 in
        (well-then limit s params (connector_keys then connector_keys) (params_at s at) lists).1

    pub inputs-well : Well limit connector_keys s (inputs_at s at)
    inputs-well = (well-then limit s connector_keys connector_keys (inputs_at s at) lists-well).0

    pub outputs-well : Well limit connector_keys s (outputs_at s at)
    outputs-well = (well-then limit s connector_keys connector_keys (inputs_at s at) lists-well).1

  -- ---- parameters
  params-from : (es : List (Entry enums)) (i n p : ℕ)
      → each_from (text then value) s (λ place start. has_class s es start) i n p ≡ all (λ v. enum_holds es v.1) (values_at (value_at text s) (value_at value s) (past text s) (past value s) n p)
  unfolding each_from all past
  params-from es i zero p = refl
  params-from es i (suc n) p = ap (λ b. has_class s es p && b) (params-from es (suc i) n (past value s (past text s p)))

  pub params_passed : (es : List (Entry enums)) (at : ℕ) {list : ℕ} → list ≡ params_at s at → {b : Bool} → b ≡ each_in (text then value) s (λ place start. has_class s es start) list → b ≡ params_hold es (value_at (entry blocks) s at)
  unfolding params_hold params_of block_rest params value_at
  params_passed es at e h = h ∙ rw e (params-from es 0 (number_at 4 s (params_at s at)) (min (params_at s at + 4) (length s)))

  -- ---- a port at a position, whose owner ends there, and a block
  module _ (block way place at : ℕ) {end e : ℕ} {own key : List ℕ} {b : Bool} (ee : end ≡ past block_key s at) (eb : e ≡ past block_key s block) (eo : own ≡ span s at end) (ek : key ≡ span s block e) (es : b ≡ same own key) where
    port-is : is_port s block way place at ≡ (b && (eqb (get_or s end 0) way && eqb (number_at 4 s (min (end + 1) (length s))) place))
    unfolding is_port
    port-is = rw (es, eo, ek, eb, ee)

    pub port_owner : b ≡ false → false ≡ is_port s block way place at
    port_owner h = sym (port-is ∙ rw h)

    module _ (h : b ≡ true) {t : ℕ} (et : t ≡ get_or s end 0) where
      pub port_way : (t ≡ way → ⊥) → eqb t way ≡ is_port s block way place at
      port_way i = sym (port-is ∙ rw (h, ← et, ne_eqb t way i))

      pub port_place : t ≡ way → {p n : ℕ} → p ≡ min (end + 1) (length s) → n ≡ number_at 4 s p → eqb n place ≡ is_port s block way place at
      port_place i j k = sym (port-is ∙ rw (h, ← et, eq-eqb t way i, ← j, ← k))

  -- ---- the keys of a list that was read are written as they stand
  module _ (bytes : AreBytes s) where
    port-holds : (block way place at : ℕ) → Well limit block_key s block → Well limit connector_key s at → is_port s block way place at ≡ port_holds (value_at block_key s block) way place (value_at connector_key s at)
    unfolding is_port port_holds owner direction port_index connector_key value_at past
    port-holds block way place at wb wp =
        let w : Well limit block_key s at = (well-then limit s block_key (wire_dir then number 4) at wp).0 in
        rw (written limit s bytes block_key block wb, written limit s bytes block_key at w)

    each-well : (n p : ℕ) → WellEach limit (connector_key then done) s (suc n) p → Well limit connector_key s p × WellEach limit (connector_key then done) s n (past connector_key s p)
    unfolding past
    each-well n p w = ((well-then limit s connector_key done p w.0).0, w.1)

    ports-from : (block way i n p : ℕ) → Well limit block_key s block → WellEach limit (connector_key then done) s n p
        → unfold connector_keys in each_from connector_key s (is_port s block way) i n p ≡ ports_hold (value_at block_key s block) way i (values_at (value_at connector_key s) (value_at done s) (past connector_key s) (past done s) n p)
    unfolding each_from ports_hold connector_keys past
    ports-from block way i zero p wb w = refl
    ports-from block way i (suc n) p wb w =
        let h = each-well n p w in
        rw (port-holds block way i p wb h.0, ports-from block way (suc i) n (past connector_key s p) wb h.1)

    names-are : (n p : ℕ) → WellEach limit (connector_key then done) s n p
        → unfold connector_keys in names_from connector_key s (λ start end. span s start end ∷ []) n p ≡ port_names (values_at (value_at connector_key s) (value_at done s) (past connector_key s) (past done s) n p)
    unfolding names_from port_names connector_keys past
    names-are zero p w = refl
    names-are (suc n) p w =
        let h = each-well n p w in
        rw (written limit s bytes connector_key p h.0, names-are n (past connector_key s p) h.1)

    list-well : (at : ℕ) → Well limit connector_keys s at → WellEach limit (connector_key then done) s (number_at 4 s at) (min (at + 4) (length s))
    unfolding connector_keys
    list-well at w = let l = well-list limit s free connector_key done 4 10 at w in rw (min-eq_left l.0) l.1

    pub ports-hold : (block way at : ℕ) → Well limit block_key s block → Well limit connector_keys s at → are_ports s block way at ≡ ports_hold (value_at block_key s block) way 0 (value_at connector_keys s at)
    unfolding are_ports connector_keys value_at
    ports-hold block way at wb w = ports-from block way 0 (number_at 4 s at) (min (at + 4) (length s)) wb (list-well at w)

    keys-are : (at : ℕ) → Well limit connector_keys s at → keys_named s at ≡ port_names (value_at connector_keys s at)
    unfolding keys_named connector_keys value_at
    keys-are at w = names-are (number_at 4 s at) (min (at + 4) (length s)) (list-well at w)

    ports-are : (at : ℕ) → Well limit (entry blocks) s at → ports_named s at ≡ block_ports (value_at (entry blocks) s at)
    unfolding block_ports
    ports-are at w = rw (inputs-at at, outputs-at at, keys-are (inputs_at s at) (inputs-well at w), keys-are (outputs_at s at) (outputs-well at w))

    pub all-ports : (words : List ℕ) → All (Well limit (entry blocks) s) words → gather (ports_named s) words ≡ gather block_ports (map (value_at (entry blocks) s) words)
    unfolding gather
    all-ports [] w = refl
    all-ports (p ∷ words) w = rw (ports-are p w.0, all-ports words w.1)

  -- ---- classes of values and of value types
  class-at : (at : ℕ) → value_class (value_at value s at) ≡ class_at s at
  unfolding class_at
  class-at at = value-class s at

  type-class : (at : ℕ) → type_named s at ≡ type_class (value_type_of (value_at (entry connectors) s at))
  unfolding value_at value_type class_at typed value_type_of connector_rest
  type-class at =
      let p : ℕ = past (number 4) s (past text s (past connector_key s at)) in
      sym (typed-class s (get_or s p 0) (min (p + 1) (length s)))

  classes-from : (n p : ℕ)
      → names_from (text then value) s (λ start end. class_at s (past text s start)) n p ≡ gather (λ v. value_class v.1) (values_at (value_at text s) (value_at value s) (past text s) (past value s) n p)
  unfolding names_from gather past
  classes-from zero p = refl
  classes-from (suc n) p = rw (class-at (past text s p), classes-from n (past value s (past text s p)))

  classes-are : (at : ℕ) → classes_named s at ≡ param_classes (value_at (entry blocks) s at)
  unfolding classes_named param_classes params_of block_rest params value_at
  classes-are at = classes-from (number_at 4 s (params_at s at)) (min (params_at s at + 4) (length s))

  pub all-classes : (words : List ℕ) → gather (classes_named s) words ≡ gather param_classes (map (value_at (entry blocks) s) words)
  unfolding gather
  all-classes [] = refl
  all-classes (p ∷ words) = rw (classes-are p, all-classes words)

  pub all-types : (words : List ℕ) → gather (type_named s) words ≡ gather (λ c. type_class (value_type_of c)) (map (value_at (entry connectors) s) words)
  unfolding gather
  all-types [] = refl
  all-types (p ∷ words) = rw (type-class p, all-types words)
