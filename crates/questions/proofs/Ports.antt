-- Names of ports: a port for which question 14 says yes is at no second place.
use Prim.Native.Nat.{ℕ, suc, ◌≤◌}
use native.Mathlib.Omega.{arith}
use mathlib.Core.Path.{◌≡◌, refl, sym, ap, ◌∙◌, subst}
use mathlib.Core.Bool.{Bool, true, false, not, true≢false, false≢true}
use mathlib.Core.List.{List, [], ◌∷◌, ◌++◌}
use lib.Dec.{eqb}
use borrow.Author.Tests.{eqb-true, not-true}
use Rattle.std.proofs.lemmas.Bool.{and_parts as both}
use Rattle.state_wire.specs.Fields.{max_snapshot_bytes}
use Rattle.format.specs.Lists.{same, is_in, all_different}
use Rattle.format.specs.Format.{El, encode}
use Rattle.format.specs.Admits.{All, Holds}
use Rattle.format.specs.Least.{honest}
use Rattle.format.specs.Keys.{block_key, connector_key, owner, direction, port_index}
use Rattle.format.specs.Manifest.{connector_keys, blocks}
use Rattle.format.specs.Fields.{Entry, block_key_of, inputs, outputs}
use Rattle.format.proofs.Lists.{same_true, in-append}
use Rattle.format.proofs.Complete.{told}
use Rattle.questions.specs.Sets.{gather}
use Rattle.questions.specs.Declarations.{block_names, port_holds, ports_hold, port_names, block_ports}
use Rattle.questions.proofs.Sets.{or_cases, in-cases, in-front, in_rest}

-- ---- what a port is by its name
key-honest : honest connector_key ≡ true
unfolding honest connector_key block_key
key-honest = refl

abbrev Admitted : El connector_key → Type 0
Admitted p = Holds max_snapshot_bytes connector_key p

-- what a key is written as tells it
key-told : (p q : El connector_key) → Admitted p → Admitted q → encode connector_key p ≡ encode connector_key q → p ≡ q
key-told = told max_snapshot_bytes connector_key key-honest

-- a port for which 14 says yes has its block's key as owner, the direction of its list, and its place in it
pub port-so : (k : El block_key) (way i : ℕ) (p : El connector_key) → port_holds k way i p ≡ true
    → (encode block_key (owner p) ≡ encode block_key k) × (direction p ≡ way) × (port_index p ≡ i)
unfolding port_holds
port-so k way i p e =
    let a = both (same (encode block_key (owner p)) (encode block_key k)) _ e in
    let b = both (eqb (direction p) way) _ a.1 in
    (same_true _ _ a.0, eqb-true _ _ b.0, eqb-true _ _ b.1)

-- so two such ports with one key stand at one place of one list: the Rust, which notes a port's key right after it passed 14, never notes
-- one twice, also where a later port or block is refused
pub one_place : (k l : El block_key) (way other i j : ℕ) (p q : El connector_key) → Holds max_snapshot_bytes connector_key p → Holds max_snapshot_bytes connector_key q
    → port_holds k way i p ≡ true → port_holds l other j q ≡ true → encode connector_key p ≡ encode connector_key q
    → (encode block_key k ≡ encode block_key l) × (way ≡ other) × (i ≡ j)
one_place k l way other i j p q hp hq e f w =
    let a = port-so k way i p e in
    let b = port-so l other j q f in
    let s = key-told p q hp hq w in
    (sym a.0 ∙ ap (λ (x : El connector_key). encode block_key (owner x)) s ∙ b.0, sym a.1 ∙ ap direction s ∙ b.1, sym a.2 ∙ ap port_index s ∙ b.2)

-- ---- lists of names
not_in : (k : List ℕ) (ks : List (List ℕ)) → (is_in k ks ≡ true → ⊥) → is_in k ks ≡ false
not_in k ks h = go (is_in k ks) refl
  where
    go : (b : Bool) → is_in k ks ≡ b → b ≡ false
    go true e = absurd (h e)
    go false e = refl

-- a name in two lists is in one or the other
in_either : {P : Type 0} (k : List ℕ) (xs ys : List (List ℕ)) → (is_in k xs ≡ true → P) → (is_in k ys ≡ true → P) → is_in k (xs ++ ys) ≡ true → P
in_either k xs ys f g e = or_cases (is_in k xs) (is_in k ys) f g (sym (in-append k xs ys) ∙ e)

different-cons : (k : List ℕ) (ks : List (List ℕ)) → (is_in k ks ≡ true → ⊥) → all_different ks ≡ true → all_different (k ∷ ks) ≡ true
unfolding all_different
different-cons k ks h e = rw (not_in k ks h, e)

-- lists that have no name in common
different-append : (xs ys : List (List ℕ)) → all_different xs ≡ true → all_different ys ≡ true → ((k : List ℕ) → is_in k xs ≡ true → is_in k ys ≡ true → ⊥)
    → all_different (xs ++ ys) ≡ true
unfolding all_different
different-append [] ys dx dy h = dy
different-append (x ∷ xs) ys dx dy h =
    let b = both (not (is_in x xs)) (all_different xs) dx in
    different-cons x (xs ++ ys)
    (in_either x xs ys (λ e. true≢false (sym e ∙ not-true (is_in x xs) b.0)) (h x (in-front x xs)))
    (different-append xs ys b.1 dy (λ k i. h k (in_rest k x xs i)))

-- ---- names of ports, and what is known of a port by its name
record Names (P : El connector_key → Type 0) (k : List ℕ) : Type 0 where
  port : El connector_key
  admitted : Admitted port
  written : encode connector_key port ≡ k
  so : P port

module _ {P Q : El connector_key → Type 0} {k : List ℕ} where
  names-so : ((p : El connector_key) → P p → Q p) → Names P k → Names Q k
  names-so h n = record { port = n.port; admitted = n.admitted; written = n.written; so = h n.port n.so }

  -- no name is that of two ports
  names_apart : ((p : El connector_key) → P p → Q p → ⊥) → Names P k → Names Q k → ⊥
  names_apart h n m = h n.port n.so (subst Q (key-told m.port n.port m.admitted n.admitted (m.written ∙ sym n.written)) m.so)

unfoldable pub AllAdmitted : El connector_keys → Type 0
unfolding connector_keys
AllAdmitted ps = All (λ p. Admitted p.0 × Unit) ps

-- a port owned by a block, of a direction, from a place on
abbrev Stands : El block_key → (way i : ℕ) → El connector_key → Type 0
Stands k way i p = (encode block_key (owner p) ≡ encode block_key k) × (direction p ≡ way) × (i ≤ port_index p)

module _ (k : El block_key) (way : ℕ) where
  -- ports for which 14 says yes: their names, each different from those after it
  ports-named : (i : ℕ) (ps : El connector_keys) → AllAdmitted ps → ports_hold k way i ps ≡ true → (n : List ℕ) → is_in n (port_names ps) ≡ true → Names (Stands k way i) n
  unfolding ports_hold port_names is_in connector_keys AllAdmitted
  ports-named i [] a e n h = absurd (false≢true h)
  ports-named i (p ∷ ps) a e n h =
      let b = both (port_holds k way i p.0) (ports_hold k way (suc i) ps) e in
      let s = port-so k way i p.0 b.0 in
      in-cases n (encode connector_key p.0) (port_names ps)
      (λ w. record { port = p.0; admitted = a.0.0; written = sym w; so = (s.0, s.1, omega (arith, s.2)) })
      (λ m. names-so (λ q t. (t.0, t.1, omega (arith, t.2))) (ports-named (suc i) ps a.1 b.1 n m))
      h

  ports-differ : (i : ℕ) (ps : El connector_keys) → AllAdmitted ps → ports_hold k way i ps ≡ true → all_different (port_names ps) ≡ true
  unfolding ports_hold port_names all_different connector_keys AllAdmitted
  ports-differ i [] a e = refl
  ports-differ i (p ∷ ps) a e =
      let b = both (port_holds k way i p.0) (ports_hold k way (suc i) ps) e in
      let s = port-so k way i p.0 b.0 in
      different-cons (encode connector_key p.0) (port_names ps)
      (λ m. names_apart {P = λ q. port_index q ≡ i} (λ q f g. absurd (omega (arith, f, g.2)))
      (record { port = p.0; admitted = a.0.0; written = refl; so = s.2 }) (ports-named (suc i) ps a.1 b.1 _ m))
      (ports-differ (suc i) ps a.1 b.1)

-- ---- blocks whose ports are admitted and for which 14 says yes
pub record Passes (b : Entry blocks) : Type 0 where
  pub ins : AllAdmitted (inputs b)
  pub outs : AllAdmitted (outputs b)
  pub ins-hold : ports_hold (block_key_of b) 0 0 (inputs b) ≡ true
  pub outs-hold : ports_hold (block_key_of b) 1 0 (outputs b) ≡ true

abbrev OwnedBy : List ℕ → El connector_key → Type 0
OwnedBy name p = encode block_key (owner p) ≡ name

module _ (b : Entry blocks) (s : Passes b) where
  block-named : (n : List ℕ) → is_in n (block_ports b) ≡ true → Names (OwnedBy (encode block_key (block_key_of b))) n
  unfolding block_ports
  block-named n =
      in_either n (port_names (inputs b)) (port_names (outputs b))
      (λ m. names-so (λ p t. t.0) (ports-named (block_key_of b) 0 0 (inputs b) s.ins s.ins-hold n m))
      (λ m. names-so (λ p t. t.0) (ports-named (block_key_of b) 1 0 (outputs b) s.outs s.outs-hold n m))

  block-differs : all_different (block_ports b) ≡ true
  unfolding block_ports
  block-differs =
      different-append (port_names (inputs b)) (port_names (outputs b))
      (ports-differ (block_key_of b) 0 0 (inputs b) s.ins s.ins-hold)
      (ports-differ (block_key_of b) 1 0 (outputs b) s.outs s.outs-hold)
      (λ n x y. names_apart (λ p t u. absurd (omega (arith, t.1, u.1)))
      (ports-named (block_key_of b) 0 0 (inputs b) s.ins s.ins-hold n x)
      (ports-named (block_key_of b) 1 0 (outputs b) s.outs s.outs-hold n y))

blocks-named : (bs : List (Entry blocks)) → All Passes bs → (n : List ℕ) → is_in n (gather block_ports bs) ≡ true → Names (λ p. is_in (encode block_key (owner p)) (block_names bs) ≡ true) n
unfolding gather block_names is_in
blocks-named [] s n h = absurd (false≢true h)
blocks-named (b ∷ bs) s n h =
    let name : List ℕ = encode block_key (block_key_of b) in
    in_either n (block_ports b) (gather block_ports bs)
    (λ m. names-so (λ p e. subst (λ (x : List ℕ). is_in x (block_names (b ∷ bs)) ≡ true) (sym e) (in-front name (block_names bs))) (block-named b s.0 n m))
    (λ m. names-so (λ p e. in_rest _ name (block_names bs) e) (blocks-named bs s.1 n m))
    h

-- blocks with different keys, all of whose ports pass 14, have no port twice
pub blocks-differ : (bs : List (Entry blocks)) → All Passes bs → all_different (block_names bs) ≡ true → all_different (gather block_ports bs) ≡ true
unfolding gather block_names all_different
blocks-differ [] s d = refl
blocks-differ (b ∷ bs) s d =
    let name : List ℕ = encode block_key (block_key_of b) in
    let e = both (not (is_in name (block_names bs))) (all_different (block_names bs)) d in
    different-append (block_ports b) (gather block_ports bs) (block-differs b s.0) (blocks-differ bs s.1 e.1)
    (λ n x y. names_apart (λ p o i. true≢false (sym (rw o at i) ∙ not-true _ e.0)) (block-named b s.0 n x) (blocks-named bs s.1 n y))
