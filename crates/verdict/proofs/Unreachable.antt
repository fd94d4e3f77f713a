-- Parts that the verdict on two accepted manifests never names: of blocks an input (9) and an output (11), of connectors and of input definitions
-- the count (13).
use Prim.Native.Nat.{ℕ, suc, ◌+◌}
use mathlib.Core.Path.{◌≡◌, refl, sym, ap, ◌∙◌, subst}
use mathlib.Core.Bool.{true, not, ◌&&◌, false≢true}
use mathlib.Core.List.{List, [], ◌∷◌, map}
use lib.ListN.{length, length-map}
use lib.Dec.{eqb}
use borrow.Author.Tests.{eqb-true}
use Rattle.std.proofs.lemmas.Bool.{and_parts as both}
use Rattle.state.specs.Bytes.{AreBytes}
use Rattle.state.specs.Outcome.{got}
use Rattle.state_wire.specs.Fields.{max_snapshot_bytes}
use Rattle.format.specs.Format.{El, text, number, tag, encode}
use Rattle.format.specs.Keys.{block_key, connector_key, owner, direction, port_index}
use Rattle.format.specs.Manifest.{value, params, connector_keys, Section, entry, blocks, connectors, input_definitions, manifest}
use Rattle.format.specs.Fields.{Entry, blocks_of, connectors_of, external_inputs_of, input_definitions_of, block_key_of, params_of, inputs, outputs, path}
use Rattle.format.specs.Admits.{Holds}
use Rattle.questions.specs.Sets.{gather, same_set, count_different, first}
use Rattle.questions.specs.Declarations.{connector_names, port_holds, ports_hold, block_ports, ports_are, declarations}
use Rattle.questions.specs.Inputs.{externals, count_is, input_answers, input_definitions_hold}
use Rattle.questions.specs.Order.{first_failing}
use Rattle.questions.specs.Answers.{judge}
use Rattle.questions.proofs.Chains.{first-none, unless-none}
use Rattle.questions.proofs.Accepted.{passed-canonical, judge-tells, declarations-say-yes, inputs-say-yes}
use Rattle.questions.proofs.Ascends.{same-sets}
use Rattle.questions.proofs.Ports.{port-so, Passes}
use Rattle.questions.proofs.Impossible.{blocks-pass}
use Rattle.verdict.specs.Verdict.{Agreement, differs, head_verdict, param_verdict, params_verdict, ports_verdict, block_verdict, entrywise, verdict}
use Rattle.verdict.proofs.Faithful.{or-both, field-finds}
use Rattle.verdict.proofs.Words.{connectors-ascend}
use Rattle.verdict.proofs.Gives.{Gives, of, given, field-gives, or-gives, From, from-any, from_all, along-gives}
use Rattle.verdict.proofs.Reached.{reached}

-- no difference, or one in a part of which G is so
abbrev InPart : (G : ℕ → Type 0) → Agreement → Type 0
InPart G = Gives (λ d. G d.part)

-- ---- blocks
-- neither part 9 nor part 11
abbrev Other : (part : ℕ) → Type 0
Other p = (not (eqb p 9) && not (eqb p 11)) ≡ true

module _ (k l : El block_key) (alike : encode block_key k ≡ encode block_key l) (way : ℕ) where
  -- ports at one place of blocks with one key are written alike
  ports-alike : (j : ℕ) (p q : El connector_key) → port_holds k way j p ≡ true → port_holds l way j q ≡ true → encode connector_key p ≡ encode connector_key q
  unfolding encode connector_key owner direction port_index
  ports-alike j p q h h' =
      let a = port-so k way j p h in
      let b = port-so l way j q h' in
      let o : encode block_key p.0 ≡ encode block_key q.0 = a.0 ∙ alike ∙ sym b.0 in
      let d : p.1.0 ≡ q.1.0 = a.1 ∙ sym b.1 in
      let n : p.1.1 ≡ q.1.1 = a.2 ∙ sym b.2 in
      rw (o, d, n)

  -- so only their counts can differ
  ports-part : (part i : ℕ) (ps qs : El connector_keys) → ports_hold k way 0 ps ≡ true → ports_hold l way 0 qs ≡ true → Other (part + 1)
      → InPart Other (ports_verdict part i ps qs)
  unfolding connector_keys ports_verdict ports_hold
  ports-part part i ps qs h h' g =
      along-gives (λ j p q a b. field-gives connector_key p.0 q.0 (λ n. absurd (n (ports-alike j p.0 q.0 a b)))) 0 ps qs (each k 0 ps h) (each l 0 qs h') (λ _ _. of g)
    where
      -- 14 says yes to each at its place
      each : (b : El block_key) (j : ℕ) (ps : El connector_keys) → ports_hold b way j ps ≡ true → From (λ j p. port_holds b way j p.0 ≡ true) j ps
      each b j [] e = tt
      each b j (p ∷ ps) e = let r = both (port_holds b way j p.0) (ports_hold b way (suc j) ps) e in (r.0, each b (suc j) ps r.1)

-- the head of a block has parts 1 to 5
head-part : (i : ℕ) (a b : Entry blocks) → InPart Other (head_verdict i a b)
unfolding head_verdict
head-part i a b =
    or-gives (field-gives block_key _ _ (λ _. of refl)) (λ _.
    or-gives (field-gives text _ _ (λ _. of refl)) (λ _.
    or-gives (field-gives (tag 2) _ _ (λ _. of refl)) (λ _.
    or-gives (field-gives (number 4) _ _ (λ _. of refl)) (λ _.
    field-gives (number 8) _ _ (λ _. of refl)))))

-- its parameters 6 to 8
params-part : (i : ℕ) (ps qs : El params) → InPart Other (params_verdict i ps qs)
unfolding params params_verdict param_verdict
params-part i ps qs =
    along-gives (λ j p q _ _. or-gives (field-gives text _ _ (λ _. of refl)) (λ _. field-gives value _ _ (λ _. of refl)))
    0 ps qs (from-any 0 ps) (from-any 0 qs) (λ _ _. of refl)

-- where the ports of two blocks are compared, the blocks have one key
block-part : (i : ℕ) (a b : Entry blocks) → Passes a → Passes b → InPart Other (block_verdict i a b)
unfolding block_verdict head_verdict
block-part i a b s s' =
    or-gives (head-part i a b) (λ h.
    let k : encode block_key (block_key_of a) ≡ encode block_key (block_key_of b) = (field-finds 3 block_key 1 i 0).alike (block_key_of a) (block_key_of b) (or-both _ _ h).0 in
    or-gives (params-part i (params_of a) (params_of b)) (λ _.
    or-gives (ports-part _ _ k 0 9 i (inputs a) (inputs b) s.ins-hold s'.ins-hold refl) (λ _.
    ports-part _ _ k 1 11 i (outputs a) (outputs b) s.outs-hold s'.outs-hold refl)))

-- ---- whole entries
-- lists of one length never differ in their count
entries-part : (k : ℕ) (e : Section) (xs ys : List (Entry e)) → length xs ≡ length ys → InPart (λ p. p ≡ 0) ((entrywise k e).compare xs ys)
entries-part k e xs ys h =
    along-gives (λ i x y _ _. field-gives (entry e) x y (λ _. of refl)) 0 xs ys (from-any 0 xs) (from-any 0 ys) (λ n. absurd (n h))

-- ---- a manifest for which every question says yes
-- the format admits it (3 to 9), and none of 11 to 32 fails
pub record AllYes (m : El manifest) : Type 0 where
  pub bound : List (List ℕ)
  pub revision : ℕ
  pub holds : Holds max_snapshot_bytes manifest m
  pub none : first_failing bound revision m ≡ 0

-- one that is accepted is such a one
pub accepted-yes : (bound : List (List ℕ)) (s : List ℕ) (revision w : ℕ) → AreBytes s → {m : El manifest} {n : ℕ} → judge bound revision s w ≡ got m n → AllYes m
accepted-yes bound s revision w bytes e =
    let j = judge-tells bound revision s w e in
    record { bound = bound; revision = revision; holds = (passed-canonical s w bytes j.passed).1; none = j.none }

module _ {m : El manifest} (a : AllYes m) where
  -- 11 to 16 say yes
  declared : first (declarations m) ≡ 0
  declared = declarations-say-yes a.bound a.revision m a.none

  -- 14: the blocks' ports are as it asks, each at its place
  blocks-each : From (λ _. Passes) 0 (blocks_of m)
  blocks-each = from_all Passes 0 (blocks_of m) (blocks-pass m a.holds declared)

  -- 15: the connectors' names are those of the ports
  ports-are : same_set (gather block_ports (blocks_of m)) (connector_names (connectors_of m)) ≡ true
  unfolding declarations ports_are
  ports-are = unless-none 14 _ (first-none _ _ (first-none _ _ (first-none _ _ declared).1).1).0

  -- 28: there are as many input definitions as different external paths
  definitions-are : length (input_definitions_of m) ≡ count_different (map path (externals (external_inputs_of m) (connectors_of m)))
  unfolding input_definitions_hold input_answers count_is
  definitions-are = eqb-true _ _ (unless-none 27 _ (first-none _ _ (first-none _ _ (inputs-say-yes a.bound a.revision m a.none)).1).0)

-- ---- two such manifests
module _ {m m' : El manifest} (a : AllYes m) (a' : AllYes m') where
  -- blocks are never said to differ in an input (part 9) or an output (part 11), only in how many there are
  pub ports-agree : {p e i : ℕ} → verdict m m' ≡ differs 3 p e i → (p ≡ 9 → ⊥) × (p ≡ 11 → ⊥)
  unfolding verdict manifest blocks_of
  ports-agree {p} d =
      let r = reached 2 m m' a.holds a'.holds d in
      let o : Other p = given (subst (InPart Other) r.1.1 (along-gives block-part 0 (blocks_of m) (blocks_of m') (blocks-each a) (blocks-each a') (λ _ _. of refl))) in
      (λ z. false≢true (subst Other z o), λ z. false≢true (subst Other z o))

  -- connectors are never said to be more or fewer
  pub connectors-as-many : {p e i : ℕ} → verdict m m' ≡ differs 4 p e i → p ≡ 0
  unfolding verdict manifest blocks_of connectors_of connector_names
  connectors-as-many d =
      let r = reached 3 m m' a.holds a'.holds d in
      let b : blocks_of m ≡ blocks_of m' = r.1.1.0 in
      let n : connector_names (connectors_of m) ≡ connector_names (connectors_of m') =
      same-sets _ _ (gather block_ports (blocks_of m)) (connectors-ascend m a.holds) (connectors-ascend m' a'.holds) (ports-are a) (rw b (ports-are a')) in
      given (subst (InPart (λ p. p ≡ 0)) r.1.1.1 (entries-part 4 connectors (connectors_of m) (connectors_of m') (simp length-map at (ap length n))))

  -- nor are input definitions
  pub definitions-as-many : {p e i : ℕ} → verdict m m' ≡ differs 12 p e i → p ≡ 0
  unfolding verdict manifest connectors_of external_inputs_of input_definitions_of
  definitions-as-many d =
      let r = reached 11 m m' a.holds a'.holds d in
      let c : connectors_of m ≡ connectors_of m' = r.1.1.1.0 in
      let x : external_inputs_of m ≡ external_inputs_of m' = r.1.1.1.1.1.1.1.1.1.0 in
      let l : length (input_definitions_of m) ≡ length (input_definitions_of m') = definitions-are a ∙ rw (c, x) (sym (definitions-are a')) in
      given (subst (InPart (λ p. p ≡ 0)) r.1.1.1.1.1.1.1.1.1.1.1 (entries-part 12 input_definitions (input_definitions_of m) (input_definitions_of m') l))
