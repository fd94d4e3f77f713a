-- What stands where the starts of the sections say: these are the first twelve words of an index.
use Prim.Native.Nat.{ℕ, zero, suc, ◌<◌}
use native.Mathlib.Omega.{arith}
use mathlib.Core.Path.{◌≡◌, refl, sym, ap, ◌∙◌}
use mathlib.Core.List.{List, [], ◌∷◌, map}
use lib.ListN.{length, get_or}
use lib.Seq.{get_or-take}
use Rattle.format.specs.Manifest.{Section, counted, lists, sequence, portability, manifest, connectors, state_slots}
use Rattle.format.specs.Fields.{connectors_of, slots_of}
use Rattle.format.specs.Places.{number_at, section_starts, manifest_starts, past}
use Rattle.format.specs.Values.{value_at, Well}
use Rattle.format.proofs.Places.{end-got}
use Rattle.format.proofs.Values.{values_length, well-then}
use Rattle.state_layout.specs.Tables.{manifest_of, Started}
use Rattle.state_layout.proofs.Tables.{limit, pick, picked}

pub starts-twelve : (s : List ℕ) → length (manifest_starts limit s) ≡ 12
unfolding manifest_starts section_starts
starts-twelve s = refl

-- the list at a place starts where the start at that place says
lists-there : (s : List ℕ) (es : List Section) (at : ℕ) → Well limit (sequence (map counted es)) s at → (i : ℕ) → i < length es
    → picked es (value_at (sequence (map counted es)) s at) i ≡ value_at (counted (pick es i)) s (get_or (section_starts limit (map counted es) s at) i 0)
unfolding value_at section_starts
lists-there s [] at w i h = absurd (omega arith)
lists-there s (e ∷ es) at w zero h = refl
lists-there s (e ∷ es) at w (suc i) h =
    let p = well-then limit s (counted e) (sequence (map counted es)) at w in
    rw (end-got limit (counted e) s at p.0.reads) (lists-there s es (past (counted e) s at) p.1 i (omega arith))

module _ (s : List ℕ) (w : Well limit manifest s 0) where
  pub starts-list : (i : ℕ) → get_or (manifest_starts limit s) (suc i) 0 ≡ get_or (section_starts limit (map counted lists) s (past portability s 0)) i 0
  unfolding manifest manifest_starts section_starts
  starts-list i =
      ap (λ (q : ℕ). get_or (section_starts limit (map counted lists) s q) i 0)
      (end-got limit portability s 0 (well-then limit s portability (sequence (map counted lists)) 0 w).0.reads)

  list-there : (i : ℕ) → i < 11 → unfold manifest in picked lists (manifest_of s).1 i ≡ value_at (counted (pick lists i)) s (get_or (manifest_starts limit s) (suc i) 0)
  unfolding manifest value_at
  list-there i h = rw (starts-list i) (lists-there s lists (past portability s 0) (well-then limit s portability (sequence (map counted lists)) 0 w).1 i h)

-- ---- by the first words of the index
module _ {s index : List ℕ} (a : Started s index) where
  pub word-there : (i : ℕ) → i < 12 → get_or (manifest_starts limit s) i 0 ≡ get_or index i 0
  word-there i h = ap (λ l. get_or l i 0) (sym a.starts) ∙ get_or-take 12 index i 0 h

  pub slots-there : slots_of (manifest_of s) ≡ value_at (counted state_slots) s (get_or index 8 0)
  unfolding manifest slots_of
  slots-there = rw (← word-there 8 (omega arith)) (list-there s a.well 7 (omega arith))

  connectors-there : connectors_of (manifest_of s) ≡ value_at (counted connectors) s (get_or index 3 0)
  unfolding manifest connectors_of
  connectors-there = rw (← word-there 3 (omega arith)) (list-there s a.well 2 (omega arith))

  pub connectors-counted : length (connectors_of (manifest_of s)) ≡ number_at 4 s (get_or index 3 0)
  unfolding value_at
  connectors-counted = ap length connectors-there ∙ values_length (value_at connectors.key s) (value_at connectors.rest s) (past connectors.key s) (past connectors.rest s) (number_at 4 s (get_or index 3 0)) _
