-- What the places of specs/Places.antt are where bytes were read: of a list's entries, of the sections.
use Prim.Native.Nat.{ℕ, zero, suc, ◌+◌, ◌*◌, ◌≤◌}
use native.Mathlib.Omega.{arith}
use mathlib.Core.Path.{◌≡◌, refl, ap, ◌∙◌, subst}
use mathlib.Core.List.{List, [], ◌∷◌, ◌++◌, map}
use lib.ListN.{length, take, drop, length-append}
use lib.Seq.{take_at, drop_at}
use Rattle.state.specs.Bytes.{span}
use Rattle.state.specs.Outcome.{got, step_of}
use Rattle.state.proofs.Outcome.{Yields, this, yielded, yields-so, yields-ask, yields-bind}
use Rattle.format.specs.Format.{Rule, Fmt, ◌then◌, list, El, entries, read, scan, kept, after_key, after_entry, after_all, from}
use Rattle.format.specs.Admits.{All}
use Rattle.format.specs.Keys.{block_key, connector_key}
use Rattle.format.specs.Manifest.{value_type, value, members, params, connector_keys, block_head, block_rest, connector_rest, slot_rest, input_rest, Section, entry, counted, lists, sections, sequence, portability, manifest}
use Rattle.format.specs.Places.{end_of, count_at, end_at, starts, section_starts, entry_starts, manifest_starts, manifest_entries}
use Rattle.format.specs.Least.{least}
use Rattle.format.specs.Reading.{index_words}
use Rattle.format.proofs.Bounds.{yields-count, ahead, list-takes, list_counts}
use Rattle.format.proofs.Values.{self}

-- ---- values one after the other
module _ (limit : ℕ) where
  -- where a value was read, it ends there
  pub end-got : (f : Fmt) (s : List ℕ) (at : ℕ) {v : El f} {n : ℕ} → read limit f s at ≡ got v n → end_at limit f s at ≡ n
  unfolding scan
  end-got f s at e = ap (λ o. end_of (step_of o)) e

  -- so many values have so many starts
  pub starts-length : (f : Fmt) (s : List ℕ) (n at : ℕ) → length (starts limit f s n at) ≡ n
  unfolding starts
  starts-length f s zero at = refl
  starts-length f s (suc n) at = ap suc (starts-length f s n (end_at limit f s at))

-- each value was read at its start, as far as `end_at`
abbrev pub Stand : (limit : ℕ) (f : Fmt) (s : List ℕ) → List ℕ → List (El f) → Type 0
Stand limit f s [] [] = Unit
Stand limit f s [] (v ∷ vs) = ⊥
Stand limit f s (p ∷ ps) [] = ⊥
Stand limit f s (p ∷ ps) (v ∷ vs) = (read limit f s p ≡ got v (end_at limit f s p)) × Stand limit f s ps vs

module _ (limit : ℕ) (u : Rule) (k r : Fmt) (s : List ℕ) where
  yields-stand : (n at : ℕ) (ks : List (List ℕ)) → Yields (λ vs z. (length vs ≡ n) × Stand limit (k then r) s (starts limit (k then r) s n at) vs) (entries u (read limit k) (read limit r) s n at ks)
  unfolding starts read
  yields-stand zero at ks = yields-ask (after_all u ks) _ _ λ _. this (refl, tt)
  yields-stand (suc n) at ks =
      yields-bind (self (read limit k s at)) λ kv m ek.
      yields-ask (after_key u (span s (from u at) m) ks) _ _ λ _.
      yields-bind (self (read limit r s m)) λ rv z er.
      yields-ask (after_entry u (span s (from u at) m) ks) _ _ λ _.
      yields-bind (yields-stand n z (kept u (span s (from u at) m) ks)) λ vs y p.
      let here : read limit (k then r) s at ≡ got (kv, rv) z = rw (ek, er) in
      let e : end_at limit (k then r) s at ≡ z = end-got limit (k then r) s at here in
      this (ap suc p.0, rw e (here, p.1))

  -- the entries of a list that was read stand at the starts after its count
  pub entries-stand : (w l at : ℕ) {vs : List (El k × El r)} {n : ℕ} → read limit (list w l u k r) s at ≡ got vs n → Stand limit (k then r) s (starts limit (k then r) s (length vs) (at + w)) vs
  unfolding read
  entries-stand w l at e = yielded (subst (Yields (λ (vs : List (El k × El r)) z. Stand limit (k then r) s (starts limit (k then r) s (length vs) (at + w)) vs)) e
      (yields-bind (yields-count s w l at) λ n m p. yields-so (yields-stand n m []) λ vs z q.
      rw (q.0, ← p.1) q.1))

-- ---- sections
module _ (limit : ℕ) (s : List ℕ) where
  fits : (es : List Section) → All (λ e. 5 ≤ least (entry e)) es → (at : ℕ) → at ≤ length s
      → Yields (λ v n. (at + 4 * length es + 5 * length (entry_starts limit es s at) ≤ n) × (n ≤ length s)) (read limit (sequence (map counted es)) s at)
  unfolding read entry_starts least
  fits [] a at h = this {n = at} (omega arith, h)
  fits (e ∷ es) a at h =
      yields-bind (self (read limit (counted e) s at)) λ vs m ev.
      let t : at + 4 + 5 * length vs ≤ m = list-takes limit s 4 e.least e.rule e.key e.rest at ev 5 a.0 in
      let c : length vs ≡ count_at s at = list_counts limit s 4 e.least e.rule e.key e.rest at ev in
      let w : m ≤ length s = (yielded (subst (Yields _) ev (ahead limit s (counted e) at h))).1 in
      yields-bind (fits es a.1 m w) λ vs' n q.
      let l : length (starts limit (entry e) s (count_at s at) (at + 4) ++ entry_starts limit es s (end_at limit (counted e) s at)) ≡ length vs + length (entry_starts limit es s m) =
      length-append (starts limit (entry e) s (count_at s at) (at + 4)) _ ∙ rw (starts-length limit (entry e) s (count_at s at) (at + 4), end-got limit (counted e) s at ev, ← c) in
      this (omega (arith, t, q.0, l), q.1)

  -- an entry of each section takes 5 bytes or more
  small : All (λ e. 5 ≤ least (entry e)) lists
  unfolding least block_key connector_key value_type value members params connector_keys block_head block_rest connector_rest slot_rest input_rest
  small = (omega arith, (omega arith, (omega arith, (omega arith, (omega arith, (omega arith, (omega arith, (omega arith, (omega arith, (omega arith, (omega arith, tt)))))))))))

  -- the twelve starts of the sections of a manifest that was read, and those of its entries, fit the index
  pub entries_fit : {v : El manifest} {n : ℕ} → read limit manifest s 0 ≡ got v n → 12 + length (manifest_entries limit s) ≤ index_words (length s)
  unfolding read manifest manifest_entries
  entries_fit e = yielded (subst (Yields (λ v n. 12 + length (entry_starts limit lists s (end_at limit portability s 0)) ≤ index_words (length s))) e
      (yields-bind (self (read limit portability s 0)) λ v m ev.
      let w = yielded (subst (Yields _) ev (ahead limit s portability 0 (omega arith))) in
      yields-bind (fits lists small m w.1) λ vs n q.
      let i : end_at limit portability s 0 ≡ m = end-got limit portability s 0 ev in
      this (rw i (omega (arith, q.0, q.1)))))

  -- the entries of the first list stand at the first starts, those of the next at the next ones, and no start is left over
  abbrev pub StandEntries : (es : List Section) → List ℕ → El (sequence (map counted es)) → Type 0
  StandEntries [] ps v = ps ≡ []
  StandEntries (e ∷ es) ps v = Stand limit (entry e) s (take (length v.0) ps) v.0 × StandEntries es (drop (length v.0) ps) v.1

  yields-entries : (es : List Section) (at : ℕ) → Yields (λ v n. StandEntries es (entry_starts limit es s at) v) (read limit (sequence (map counted es)) s at)
  unfolding read entry_starts
  yields-entries [] at = this refl
  yields-entries (e ∷ es) at =
      yields-bind (self (read limit (counted e) s at)) λ vs m ev.
      yields-bind (yields-entries es m) λ vs' n q.
      let c : length vs ≡ count_at s at = list_counts limit s 4 e.least e.rule e.key e.rest at ev in
      let l = starts-length limit (entry e) s (length vs) (at + 4) in
      let i : end_at limit (counted e) s at ≡ m = end-got limit (counted e) s at ev in
      this (rw (← c, i, take_at (starts limit (entry e) s (length vs) (at + 4)) (entry_starts limit es s m) (length vs) l, drop_at (starts limit (entry e) s (length vs) (at + 4)) (entry_starts limit es s m) (length vs) l)
      (entries-stand limit e.rule e.key e.rest s 4 e.least at ev, q))

  -- so has a manifest its entries at their starts
  pub manifest-entries-stand : {v : El manifest} {n : ℕ} → read limit manifest s 0 ≡ got v n → unfold manifest in StandEntries lists (manifest_entries limit s) v.1
  unfolding read manifest manifest_entries
  manifest-entries-stand e = yielded (subst (Yields (λ (v : El (sequence sections)) n. StandEntries lists (entry_starts limit lists s (end_at limit portability s 0)) v.1)) e
      (yields-bind (self (read limit portability s 0)) λ v m ev.
      yields-bind (yields-entries lists m) λ vs n q.
      let i : end_at limit portability s 0 ≡ m = end-got limit portability s 0 ev in
      this (rw i q)))

  -- each section was read at its start, as far as `end_at`
  abbrev pub StandSections : (fs : List Fmt) → List ℕ → El (sequence fs) → Type 0
  StandSections [] [] v = Unit
  StandSections [] (p ∷ ps) v = ⊥
  StandSections (f ∷ fs) [] v = ⊥
  StandSections (f ∷ fs) (p ∷ ps) v = (read limit f s p ≡ got v.0 (end_at limit f s p)) × StandSections fs ps v.1

  yields-sections : (fs : List Fmt) (at : ℕ) → Yields (λ v n. StandSections fs (section_starts limit fs s at) v) (read limit (sequence fs) s at)
  unfolding read section_starts
  yields-sections [] at = this tt
  yields-sections (f ∷ fs) at =
      yields-bind (self (read limit f s at)) λ v m ev.
      yields-bind (yields-sections fs m) λ vs n q.
      let i : end_at limit f s at ≡ m = end-got limit f s at ev in
      this (rw i (ev, q))

  -- formats that were read one after the other stand at their starts, and so do the sections of a manifest
  pub sections-stand : (fs : List Fmt) (at : ℕ) {v : El (sequence fs)} {n : ℕ} → read limit (sequence fs) s at ≡ got v n → StandSections fs (section_starts limit fs s at) v
  sections-stand fs at e = yielded (subst (Yields (λ v n. StandSections fs (section_starts limit fs s at) v)) e (yields-sections fs at))

  pub manifest-stands : {v : El manifest} {n : ℕ} → read limit manifest s 0 ≡ got v n → unfold manifest in StandSections sections (manifest_starts limit s) v
  unfolding manifest manifest_starts
  manifest-stands e = sections-stand sections 0 e
