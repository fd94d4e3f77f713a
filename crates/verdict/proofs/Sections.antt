-- The section that the verdict names is where the bytes first differ; it names none where they are the same.
use Prim.Native.Nat.{ℕ, suc, ◌+◌, ◌-◌, ◌≤◌, ◌<◌}
use native.Mathlib.Omega.{arith}
use mathlib.Core.Path.{◌≡◌, refl, sym, ap, ap₂, ◌∙◌}
use mathlib.Core.Bool.{true}
use mathlib.Core.List.{List, [], ◌∷◌, ◌++◌}
use lib.ListN.{length, get_or, take, drop}
use lib.Seq.{take-length, take-add, take-take, get_or-take, get_or-drop, ext_get_or}
use Rattle.std.specs.Prelude.{Err}
use Rattle.std.proofs.lemmas.Bool.{and_parts as both}
use Rattle.state.specs.Bytes.{AreBytes}
use Rattle.state.specs.Outcome.{got}
use Rattle.state.specs.declared.Difference.{Difference}
use Rattle.state.proofs.Bytes.{Part}
use Rattle.state_wire.specs.Fields.{max_snapshot_bytes}
use Rattle.format.specs.Format.{Fmt, El, read, encode}
use Rattle.format.specs.Admits.{Holds}
use Rattle.format.specs.Least.{honest}
use Rattle.format.specs.Manifest.{sections, sequence, manifest}
use Rattle.format.specs.Places.{end_at, past, section_starts, manifest_starts, section_start}
use Rattle.format.specs.Values.{value_at, Well}
use Rattle.format.proofs.Sound.{Stands, read-sound}
use Rattle.format.proofs.Values.{spells, well, well-then}
use Rattle.format.proofs.Places.{end-got}
use Rattle.format.proofs.Apart.{Apart, written_apart}
use Rattle.format.proofs.Canonical.{manifest-honest}
use Rattle.verdict.specs.Verdict.{Agreement, compatible, ◌or_else◌, Comparison, comparisons, formats, over, verdict}
use Rattle.verdict.specs.Demand3.{Named, VerdictRight}
use Rattle.verdict.proofs.Gives as gives
use Rattle.verdict.proofs.Faithful.{Within, AllFaithful, comparisons-faithful}

-- ---- bytes that stand in others
module _ {s : List ℕ} {a b : ℕ} {x : List ℕ} (p : Part s a b x) where
  -- the first n of them, behind all before them
  part-take : (n : ℕ) → n ≤ length x → take (a + n) s ≡ take a s ++ take n x
  part-take n h = take-add a n s ∙ ap (λ (l : List ℕ). take a s ++ l) (sym (take-take n (b - a) (drop a s) (omega (arith, p.ends))) ∙ ap (take n) p.is)

  -- the one at n
  part-get : (n : ℕ) → n < length x → get_or s (a + n) 0 ≡ get_or x n 0
  part-get n h = sym (get_or-drop a s n 0) ∙ sym (get_or-take (b - a) (drop a s) n 0 (omega (arith, p.ends))) ∙ ap (λ (l : List ℕ). get_or l n 0) p.is

-- where x and y stand behind the same bytes and begin with the same n, the bytes are the same up to there
same-up-to : {s t : List ℕ} {a b m o : ℕ} {x y : List ℕ} → Part s a m x → Part t b o y → a ≡ b → take a s ≡ take b t
    → (n : ℕ) → n ≤ length x → n ≤ length y → take n x ≡ take n y → take (a + n) s ≡ take (a + n) t
same-up-to {t = t} p q e front n h h' i = part-take p n h ∙ ap₂ ◌++◌ front i ∙ sym (part-take q n h') ∙ ap (λ (k : ℕ). take (k + n) t) (sym e)

-- ---- bytes that were read to their end
-- from a on, as these formats, one after the other
pub record Left (limit : ℕ) (s : List ℕ) (fs : List Fmt) (a : ℕ) : Type 0 where
  pub well : Well limit (sequence fs) s a
  pub ends : past (sequence fs) s a ≡ length s

module _ (limit : ℕ) (s : List ℕ) where
  -- the first of them, and what is left after it
  left-then : {f : Fmt} {fs : List Fmt} {a : ℕ} → Left limit s (f ∷ fs) a → Well limit f s a × Left limit s fs (past f s a)
  unfolding past
  left-then {f} {fs} {a} r = let p = well-then limit s f (sequence fs) a r.well in (p.0, record { well = p.1; ends = r.ends })

  -- what was read stands there as it is written, and is admitted
  well-stands : AreBytes s → {f : Fmt} {a : ℕ} → Well limit f s a → Stands s a (past f s a) (encode f (value_at f s a)) (Holds limit f (value_at f s a))
  well-stands bytes {f} {a} w = read-sound limit s bytes f a (value_at f s a) (past f s a) w.here w.reads

  -- a section ends where the next one starts, or before the end of the bytes
  next_start : (fs : List Fmt) (a : ℕ) → a ≤ length s → a ≤ get_or (section_starts limit fs s a) 0 (length s)
  unfolding section_starts
  next_start [] a h = h
  next_start (f ∷ fs) a h = omega arith

-- ---- the section that is named
module _ (limit : ℕ) (s t : List ℕ) where
  -- the same bytes, up to a in s and up to b in t
  abbrev Same : (a b : ℕ) → Type 0
  Same a b = (a ≡ b) × (take a s ≡ take b t)

  -- sections of these formats start at a in s and at b in t: the first position at which the two differ lies in the i-th, in both
  pub record FirstIn (fs : List Fmt) (a b i : ℕ) : Type 0 where
    pub there : i < length fs
    pub starts : get_or (section_starts limit fs s a) i (length s) ≡ get_or (section_starts limit fs t b) i (length t)
    pub first : ℕ
    pub alike : take first s ≡ take first t
    pub apart : get_or s first 0 ≡ get_or t first 0 → ⊥
    pub from : get_or (section_starts limit fs s a) i (length s) ≤ first
    pub in-snapshot : first < get_or (section_starts limit fs s a) (suc i) (length s)
    pub in-target : first < get_or (section_starts limit fs t b) (suc i) (length t)

  -- what a verdict says of the bytes, where those sections are numbered from k on
  pub data Says (k : ℕ) (fs : List Fmt) (a b : ℕ) : Agreement → Type 0 where
    same : s ≡ t → Says k fs a b compatible
    differ : {d : Difference} (i : ℕ) → d.section ≡ k + i → FirstIn fs a b i → Says k fs a b (Err d)

  -- what it says of the sections after one, it says of all
  later : {k : ℕ} {f : Fmt} {fs : List Fmt} {a b : ℕ} {d : Agreement} → Says (suc k) fs (end_at limit f s a) (end_at limit f t b) d → Says k (f ∷ fs) a b d
  unfolding section_starts
  later (same e) = same e
  later (differ i e x) = differ (suc i) (omega arith) (record {
    there = omega (arith, x.there);
    starts = x.starts;
    first = x.first;
    alike = x.alike;
    apart = x.apart;
    from = x.from;
    in-snapshot = x.in-snapshot;
    in-target = x.in-target;
  })

  module _ (bytes : AreBytes s) (bytes' : AreBytes t) where
    -- a section that is written alike: the bytes are the same up to its end
    onward : {a b : ℕ} {f : Fmt} → Same a b → Well limit f s a → Well limit f t b → encode f (value_at f s a) ≡ encode f (value_at f t b) → Same (past f s a) (past f t b)
    onward {a} {b} {f} r w w' i =
        let x = (well-stands limit s bytes w).part in
        let y = (well-stands limit t bytes' w').part in
        let l : length (encode f (value_at f s a)) ≡ length (encode f (value_at f t b)) = ap length i in
        let j : past f s a ≡ past f t b = omega (arith, r.0, l, x.ends, y.ends) in
        (j, ap (λ (n : ℕ). take n s) x.ends ∙ same-up-to x y r.0 r.1 _ (omega arith) (omega (arith, l)) (rw i) ∙ ap (λ (n : ℕ). take n t) (sym x.ends ∙ j))

    -- a section of different values: the first difference lies in it
    here : {k a b : ℕ} {f : Fmt} (fs : List Fmt) {d : Difference} → d.section ≡ k → honest f ≡ true → Same a b → Well limit f s a → Well limit f t b
        → (value_at f s a ≡ value_at f t b → ⊥) → Says k (f ∷ fs) a b (Err d)
    unfolding section_starts
    here {k} {a} {b} {f} fs e h r w w' ne =
        let x = well-stands limit s bytes w in
        let y = well-stands limit t bytes' w' in
        let d : Apart (encode f (value_at f s a)) (encode f (value_at f t b)) = written_apart limit f h (value_at f s a) (value_at f t b) x.holds y.holds ne in
        differ 0 (omega arith) (record {
          there = omega arith;
          starts = r.0;
          first = a + d.at;
          alike = same-up-to x.part y.part r.0 r.1 d.at (omega (arith, d.in-first)) (omega (arith, d.in-second)) d.before;
          apart = λ q. d.there (sym (part-get x.part d.at d.in-first) ∙ q ∙ ap (λ (n : ℕ). get_or t (n + d.at) 0) r.0 ∙ part-get y.part d.at d.in-second);
          from = omega arith;
          in-snapshot = rw (end-got limit f s a w.reads) (omega (arith, x.part.ends, d.in-first, next_start limit s fs (past f s a) x.part.within));
          in-target = rw (end-got limit f t b w'.reads) (omega (arith, r.0, y.part.ends, d.in-second, next_start limit t fs (past f t b) y.part.within));
        })

    -- what the comparisons of sections come to says where the bytes first differ
    pub over-says : (k a b : ℕ) (cs : List Comparison) → AllFaithful k cs → honest (sequence (formats cs)) ≡ true
        → Same a b → Left limit s (formats cs) a → Left limit t (formats cs) b
        → Says k (formats cs) a b (over cs (value_at (sequence (formats cs)) s a) (value_at (sequence (formats cs)) t b))
    unfolding over past value_at honest
    over-says k a b [] faithful h r p q = same (sym (take-length s) ∙ rw (← p.ends, ← q.ends) r.1 ∙ take-length t)
    over-says k a b (c ∷ cs) faithful h r p q = go refl (faithful.0.within v w) (λ r'. over-says (suc k) _ _ cs faithful.1 (both (honest f) _ h).1 r' (left-then limit s p).1 (left-then limit t q).1)
      where
        f : Fmt
        f = c.format

        v : El f
        v = value_at f s a

        w : El f
        w = value_at f t b

        at-s : Well limit f s a
        at-s = (left-then limit s p).0

        at-t : Well limit f t b
        at-t = (left-then limit t q).0

        rest : Agreement
        rest = over cs (value_at (sequence (formats cs)) s (past f s a)) (value_at (sequence (formats cs)) t (past f t b))

        go : {x : Agreement} → c.compare v w ≡ x → Within k x → (Same (past f s a) (past f t b) → Says (suc k) (formats cs) (past f s a) (past f t b) rest)
            → Says k (f ∷ formats cs) a b (x or_else rest)
        go e gives.same says = later (rw (end-got limit f s a at-s.reads, end-got limit f t b at-t.reads) (says (onward r at-s at-t (faithful.0.alike v w e))))
        go e (gives.of q) says = here (formats cs) q (both (honest f) _ h).0 r at-s at-t (λ i. cc (e, i, faithful.0.self v))

-- ---- demand 3's sentences
-- the start of section k is that of the i-th where k is 1 + i
start_is : (s : List ℕ) (k i : ℕ) → k ≡ 1 + i → section_start max_snapshot_bytes k s ≡ get_or (section_starts max_snapshot_bytes sections s 0) i (length s)
unfolding section_start manifest_starts
start_is s k i h = let e : k - 1 ≡ i = omega arith in rw e

module _ (s t : List ℕ) where
  -- "the section that the verdict names"
  named : {k i : ℕ} → k ≡ 1 + i → FirstIn max_snapshot_bytes s t sections 0 0 i → Named s t k
  named {k} {i} e x =
      let p : section_start max_snapshot_bytes k s ≡ _ = start_is s k i e in
      let q : section_start max_snapshot_bytes k s ≡ section_start max_snapshot_bytes k t = p ∙ x.starts ∙ sym (start_is t k i e) in
      let l : section_start max_snapshot_bytes k s ≤ x.first = rw p x.from in
      record {
        numbered = (omega arith, omega (arith, x.there));
        starts = q;
        before = sym (take-take _ x.first s l) ∙ ap (take (section_start max_snapshot_bytes k s)) x.alike ∙ take-take _ x.first t l ∙ ap (λ (n : ℕ). take n t) q;
        first = x.first;
        alike = x.alike;
        differs = x.apart;
        from = l;
        in-snapshot = rw (start_is s (k + 1) (suc i) (omega arith)) x.in-snapshot;
        in-target = rw (start_is t (k + 1) (suc i) (omega arith)) x.in-target;
      }

  -- a verdict that says where the bytes first differ is right
  says-right : {d : Agreement} → Says max_snapshot_bytes s t 1 sections 0 0 d → VerdictRight s t d
  says-right (same e) = record { compatible = (λ _. record { long = ap length e; bytes = λ i _. ap (λ (l : List ℕ). get_or l i 0) e }, λ _. refl); otherwise = λ n. absurd (n refl) }
  says-right (differ {d = d} i k x) = record {
    compatible = (λ h. cc, λ q. absurd (x.apart (ap (λ (l : List ℕ). get_or l x.first 0) (ext_get_or 0 s t q.long q.bytes))));
    otherwise = λ _. record { difference = d; is = refl; named = named k x };
  }

-- a manifest that was read to the end of the bytes is what they spell, in its sections
manifest-left : (s : List ℕ) {m : El manifest} → read max_snapshot_bytes manifest s 0 ≡ got m (length s) → (value_at manifest s 0 ≡ m) × Left max_snapshot_bytes s sections 0
unfolding manifest
manifest-left s r =
    let v = spells max_snapshot_bytes s manifest 0 r in
    (v.1, record { well = well max_snapshot_bytes s manifest 0 (omega arith) r; ends = v.0 })

-- the verdict on two of them is right
pub verdict-read : (s t : List ℕ) → AreBytes s → AreBytes t → {m m' : El manifest}
    → read max_snapshot_bytes manifest s 0 ≡ got m (length s) → read max_snapshot_bytes manifest t 0 ≡ got m' (length t) → VerdictRight s t (verdict m m')
unfolding verdict manifest
verdict-read s t bytes bytes' r r' =
    let p = manifest-left s r in
    let q = manifest-left t r' in
    says-right s t (rw (← p.0, ← q.0) (over-says max_snapshot_bytes s t bytes bytes' 1 0 0 comparisons comparisons-faithful manifest-honest (refl, refl) p.1 q.1))
