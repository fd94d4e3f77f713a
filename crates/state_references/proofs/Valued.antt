-- What is asked at the positions of entries that were read is what is asked of their values.
use Prim.Native.Nat.{ℕ}
use mathlib.Core.Path.{◌≡◌, refl, sym, ap, ◌∙◌}
use mathlib.Core.Bool.{Bool, ◌&&◌}
use mathlib.Core.List.{List, [], ◌∷◌, map}
use lib.ListN.{get_or}
use Rattle.state.specs.Bytes.{AreBytes}
use Rattle.format.specs.Lists.{is_in}
use Rattle.format.specs.Format.{text, done, ◌then◌, encode}
use Rattle.format.specs.Admits.{All}
use Rattle.format.specs.Keys.{block_key, connector_key, direction}
use Rattle.format.specs.Manifest.{Section, entry, blocks, connectors, connections, schedule, connector_order, driver_of, external_inputs, boundary_outputs}
use Rattle.format.specs.Fields.{Entry, source, sink, scheduled, ordered, driven, driver, external_input, output_name, output_source}
use Rattle.format.specs.Places.{past, key_at}
use Rattle.format.specs.Values.{value_at, Well}
use Rattle.format.proofs.Values.{well-then, written}
use Rattle.questions.specs.Sets.{all, all_in}
use Rattle.questions.proofs.Sets.{all_both, all_map}
use Rattle.questions.specs.References.{is_known, is_directed, joins, drives, external_names}
use Rattle.state_index.specs.Keys.{text_at}
use Rattle.state_layout.specs.Tables.{Table}
use Rattle.state_layout.proofs.Tables.{limit}
use Rattle.state_layout.proofs.Names.{keys-are}
use Rattle.state_references.specs.Known.{of_way, known_at, directed_at, joins_at, drives_at, source_at}

-- ---- a connector key
way-is : (s : List ℕ) (p : ℕ) → direction (value_at connector_key s p) ≡ get_or s (past block_key s p) 0
unfolding direction connector_key value_at
way-is s p = refl

module _ {s : List ℕ} (bytes : AreBytes s) (p : ℕ) where
  module _ (names : List (List ℕ)) (w : Well limit connector_key s p) where
    known_is : known_at s names p ≡ is_known names (value_at connector_key s p)
    unfolding known_at is_known key_at
    known_is = rw (written limit s bytes connector_key p w)

    directed-is : (way : ℕ) → directed_at s names way p ≡ is_directed names way (value_at connector_key s p)
    unfolding directed_at of_way is_directed
    directed-is way = rw (known_is, way-is s p)

-- ---- an entry
module _ {s : List ℕ} (bytes : AreBytes s) (names : List (List ℕ)) (p : ℕ) where
  joins-is : Well limit (entry connections) s p → joins_at s names p ≡ joins names (value_at (entry connections) s p)
  unfolding joins_at joins source sink value_at
  joins-is w =
      let k = well-then limit s connector_key connector_key p (well-then limit s (connector_key then connector_key) done p w).0 in
      rw (directed-is bytes p names k.0 1, directed-is bytes (past connector_key s p) names k.1 0)

  drives-is : Well limit (entry driver_of) s p → drives_at s names p ≡ drives names (value_at (entry driver_of) s p)
  unfolding drives_at drives driven driver value_at
  drives-is w =
      let k = well-then limit s connector_key connector_key p w in
      rw (known_is bytes p names k.0, known_is bytes (past connector_key s p) names k.1)

  external-is : Well limit (entry external_inputs) s p → (of_way s 0 p && is_in (key_at connectors s p) names) ≡ is_directed names 0 (external_input (value_at (entry external_inputs) s p))
  unfolding external_input value_at directed_at known_at
  external-is w = directed-is bytes p names (well-then limit s connector_key done p w).0 0

  output-is : Well limit (entry boundary_outputs) s p → source_at s names p ≡ is_directed names 1 (output_source (value_at (entry boundary_outputs) s p))
  unfolding source_at output_source value_at
  output-is w = directed-is bytes (past text s p) names (well-then limit s text connector_key p w).1 1

-- ---- all entries of a section
all-values : (e : Section) (s : List ℕ) (t : ℕ → Bool) (u : Entry e → Bool) → ((p : ℕ) → Well limit (entry e) s p → t p ≡ u (value_at (entry e) s p))
    → (ps : List ℕ) → All (Well limit (entry e) s) ps → all t ps ≡ all u (map (value_at (entry e) s) ps)
unfolding all
all-values e s t u h [] w = refl
all-values e s t u h (p ∷ ps) w = rw (h p w.0, all-values e s t u h ps w.1)

table-all : (e : Section) {s ps : List ℕ} {vs : List (Entry e)} → Table e s ps vs → (t : ℕ → Bool) (u : Entry e → Bool)
    → ((p : ℕ) → Well limit (entry e) s p → t p ≡ u (value_at (entry e) s p)) → all t ps ≡ all u vs
table-all e {s} {ps} t f u h = all-values e s f u h ps t.well ∙ ap (all u) t.values

-- of each one thing, and of its key that it is known
all_known : (f : ℕ → Bool) (k : ℕ → List ℕ) (names : List (List ℕ)) (ps : List ℕ) → (all f ps && all_in (map k ps) names) ≡ all (λ p. f p && is_in (k p) names) ps
unfolding all_in
all_known f k names ps = sym (all_both f (λ p. is_in (k p) names) ps ∙ rw (all_map (λ l. is_in l names) k ps))

module _ {s : List ℕ} (bytes : AreBytes s) (names : List (List ℕ)) {ps : List ℕ} where
  pub all-join-is : {vs : List (Entry connections)} → Table connections s ps vs → all (joins_at s names) ps ≡ all (joins names) vs
  all-join-is t = table-all connections t (joins_at s names) (joins names) (joins-is bytes names)

  pub all-drive-is : {vs : List (Entry driver_of)} → Table driver_of s ps vs → all (drives_at s names) ps ≡ all (drives names) vs
  all-drive-is t = table-all driver_of t (drives_at s names) (drives names) (drives-is bytes names)

  pub all-output-is : {vs : List (Entry boundary_outputs)} → Table boundary_outputs s ps vs → all (source_at s names) ps ≡ all (λ o. is_directed names 1 (output_source o)) vs
  all-output-is t = table-all boundary_outputs t (source_at s names) (λ o. is_directed names 1 (output_source o)) (output-is bytes names)

  pub all-external-is : {vs : List (Entry external_inputs)} → Table external_inputs s ps vs
      → (all (of_way s 0) ps && all_in (map (key_at connectors s) ps) names) ≡ all (λ x. is_directed names 0 (external_input x)) vs
  all-external-is t =
      all_known (of_way s 0) (key_at connectors s) names ps
      ∙ table-all external_inputs t (λ p. of_way s 0 p && is_in (key_at connectors s p) names) (λ x. is_directed names 0 (external_input x)) (external-is bytes names)

-- ---- keys and names
module _ {s : List ℕ} (bytes : AreBytes s) {ps : List ℕ} where
  pub keys-schedule : {vs : List (Entry schedule)} → Table schedule s ps vs → map (key_at blocks s) ps ≡ map (λ v. encode block_key (scheduled v)) vs
  unfolding key_at scheduled
  keys-schedule t = keys-are schedule s bytes t

  pub keys-order : {vs : List (Entry connector_order)} → Table connector_order s ps vs → map (key_at connectors s) ps ≡ map (λ v. encode connector_key (ordered v)) vs
  unfolding key_at ordered
  keys-order t = keys-are connector_order s bytes t

  pub keys-externals : {vs : List (Entry external_inputs)} → Table external_inputs s ps vs → map (key_at connectors s) ps ≡ external_names vs
  unfolding key_at external_names external_input
  keys-externals t = keys-are external_inputs s bytes t

name-values : (s ps : List ℕ) → map (text_at s) ps ≡ map output_name (map (value_at (entry boundary_outputs) s) ps)
unfolding output_name value_at
name-values s [] = refl
name-values s (p ∷ ps) = rw (name-values s ps)

pub names-outputs : {s ps : List ℕ} {vs : List (Entry boundary_outputs)} → Table boundary_outputs s ps vs → map (text_at s) ps ≡ map output_name vs
names-outputs {s} {ps} t = name-values s ps ∙ ap (map output_name) t.values
