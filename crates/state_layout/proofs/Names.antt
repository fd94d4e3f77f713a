-- The keys of a section's entries, as they stand and as they are written.
use Prim.Native.Nat.{ℕ, zero, suc, ◌≤◌, ◌<◌}
use native.Mathlib.Omega.{arith}
use mathlib.Core.Path.{◌≡◌, refl, ap, ◌∙◌}
use mathlib.Core.Bool.{true, not}
use mathlib.Core.List.{List, [], ◌∷◌, map}
use lib.ListN.{length, get_or}
use Rattle.state.specs.Bytes.{AreBytes}
use Rattle.format.specs.Lists.{before}
use Rattle.format.specs.Format.{encode}
use Rattle.format.specs.Admits.{All, shown}
use Rattle.format.specs.Pairwise.{Ascending}
use Rattle.format.specs.Manifest.{Section, entry, enums, blocks, connectors, numbered}
use Rattle.format.specs.Fields.{Entry, enum_path, block_key_of, connector_key_of}
use Rattle.format.specs.Places.{key_at}
use Rattle.format.specs.Values.{value_at, Well}
use Rattle.format.proofs.Pairwise.{Rises, ascending-iff, ascending-different, different-iff}
use Rattle.format.proofs.Values.{well-then, key-written}
use Rattle.questions.specs.Declarations.{block_names, connector_names}
use Rattle.state_index.specs.Sort.{Below, Ordered}
use Rattle.state_index.specs.Find.{key_at_most}
use Rattle.state_index.proofs.Order.{leq-total}
use Rattle.state_layout.specs.Tables.{Table, Laid, table_of}
use Rattle.state_layout.specs.Keys.{Ascends}
use Rattle.state_layout.proofs.Indexed.{table-enums, table-blocks, table-connectors}
use Rattle.state_layout.proofs.Tables.{limit}

module _ (e : Section) (s : List ℕ) (bytes : AreBytes s) where
  keys-values : (ps : List ℕ) → All (Well limit (entry e) s) ps
      → map (key_at e s) ps ≡ map (λ v. shown e.rule (encode e.key v.0)) (map (value_at (entry e) s) ps)
  unfolding value_at
  keys-values [] w = refl
  keys-values (p ∷ ps) w = rw (key-written limit s bytes e p (well-then limit s e.key e.rest p w.0).0, keys-values ps w.1)

  -- the keys of a section's entries are written as they stand
  pub keys-are : {ps : List ℕ} {vs : List (Entry e)} → Table e s ps vs → map (key_at e s) ps ≡ map (λ v. shown e.rule (encode e.key v.0)) vs
  keys-are {ps} t = keys-values ps t.well ∙ ap (map (λ v. shown e.rule (encode e.key v.0))) t.values

-- ---- keys that ascend
module _ (e : Section) (s : List ℕ) where
  below_all : (p : ℕ) (ps : List ℕ) → ((j : ℕ) → j < length (map (key_at e s) ps) → before (key_at e s p) (get_or (map (key_at e s) ps) j []) ≡ true) → Below (key_at_most e s) p ps
  below_all p [] h = tt
  below_all p (q ∷ ps) h = (leq-total (key_at e s q) (key_at e s p) (ap not (h 0 (omega arith))), below_all p ps (λ j l. h (suc j) (omega arith)))

  ascending-ordered : (ps : List ℕ) → Ascending (map (key_at e s) ps) → Ordered (key_at_most e s) ps
  ascending-ordered [] a = tt
  ascending-ordered (p ∷ ps) a = (below_all p ps (λ j l. a 0 (suc j) (omega arith) (omega arith)), ascending-ordered ps (λ i j l k. a (suc i) (suc j) (omega arith) (omega arith)))

-- ---- the three sections whose keys ascend
keys-ascend : (e : Section) {s ps : List ℕ} {vs : List (Entry e)} → AreBytes s → Rises e.rule → Table e s ps vs → Ascends e s ps
keys-ascend e {s} {ps} bytes rises t =
    let a : Ascending (map (key_at e s) ps) = rw (keys-are e s bytes t) ((ascending-iff e.rule rises _).0 t.order) in
    let ks = map (key_at e s) ps in
    (ascending-ordered e s ps a, (different-iff ks).1 (ascending-different ks a))

pub laid_ascends : {s index : List ℕ} → Laid s index → (k : ℕ) → 2 ≤ k → k ≤ 4 → Ascends (numbered k) s (table_of k s index)
unfolding numbered
laid_ascends {s} {index} t k h l = by-case k h l
  where
    by-case : (k : ℕ) → 2 ≤ k → k ≤ 4 → Ascends (numbered k) s (table_of k s index)
    by-case zero h l = absurd (omega arith)
    by-case (suc zero) h l = absurd (omega arith)
    by-case (suc (suc zero)) h l = keys-ascend enums t.bytes tt (table-enums t)
    by-case (suc (suc (suc zero))) h l = keys-ascend blocks t.bytes tt (table-blocks t)
    by-case (suc (suc (suc (suc zero)))) h l = keys-ascend connectors t.bytes tt (table-connectors t)
    by-case (suc (suc (suc (suc (suc k))))) h l = absurd (omega arith)

-- ---- names
pub names-blocks : {s ps : List ℕ} {vs : List (Entry blocks)} → AreBytes s → Table blocks s ps vs → map (key_at blocks s) ps ≡ block_names vs
unfolding block_names block_key_of
names-blocks {s} bytes t = keys-are blocks s bytes t

pub names-connectors : {s ps : List ℕ} {vs : List (Entry connectors)} → AreBytes s → Table connectors s ps vs → map (key_at connectors s) ps ≡ connector_names vs
unfolding connector_names connector_key_of
names-connectors {s} bytes t = keys-are connectors s bytes t

path-keys : (s ps : List ℕ) → map (key_at enums s) ps ≡ map enum_path (map (value_at (entry enums) s) ps)
unfolding key_at enum_path value_at
path-keys s [] = refl
path-keys s (p ∷ ps) = rw (path-keys s ps)

pub paths-enums : {s ps : List ℕ} {vs : List (Entry enums)} → Table enums s ps vs → map (key_at enums s) ps ≡ map enum_path vs
paths-enums {s} {ps} t = path-keys s ps ∙ ap (map enum_path) t.values
