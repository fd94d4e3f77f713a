-- Two manifests side by side: values of one format at two places, and lists walked together.
use Prim.Native.Nat.{ℕ, zero, suc, ◌+◌, ◌-◌, ◌≤◌, ◌<◌, min}
use native.Mathlib.Omega.{arith}
use native.Mathlib.Nat.{min-eq_left, sub-zero}
use mathlib.Core.Path.{◌≡◌, refl, sym, ap, ◌∙◌}
use mathlib.Core.Bool.{Bool, true, false, cond}
use mathlib.Core.List.{List}
use lib.ListN.{length}
use lib.Dec.{eqb}
use borrow.Author.Tests.{eq-eqb, ne_eqb, eqb-true}
use Rattle.std.specs.Prelude.{Err}
use Rattle.state.specs.Bytes.{AreBytes, span}
use Rattle.state.specs.declared.Difference.{Difference}
use Rattle.state_wire.specs.Fields.{max_snapshot_bytes}
use Rattle.format.specs.Lists.{same}
use Rattle.format.specs.Format.{Rule, Fmt, El, ◌then◌, list}
use Rattle.format.specs.Manifest.{entry}
use Rattle.format.specs.Places.{number_at, skip, past}
use Rattle.format.specs.Values.{values_at, value_at, WellEach}
use Rattle.format.proofs.Values.{well-then, well-list, written}
use Rattle.verdict.specs.Verdict.{Agreement, compatible, ◌or_else◌, field, along}
use Rattle.state_comparison.specs.Comparing.{Both, Lists, Tells}

-- ---- one or else the other
-- one that comes to x is no difference, and the other comes to y; or it is one
pub or-next : {x y d e : Agreement} → x ≡ d → x ≡ compatible → y ≡ e → y ≡ d or_else e
or-next {e = e} i o j = j ∙ ap (λ l. l or_else e) (sym o ∙ i)

pub or-found : {x d : Agreement} {f : Difference} (e : Agreement) → x ≡ d → x ≡ Err f → Err f ≡ d or_else e
or-found e i o = ap (λ l. l or_else e) (sym o ∙ i)

-- ---- two values
module _ {s t : List ℕ} where
  -- the first of two stands where both do
  pub both_first : (f g : Fmt) {a b : ℕ} → Both (f then g) s t a b → Both f s t a b
  both_first f g {a} {b} h = record {
    bytes = h.bytes;
    bytes' = h.bytes';
    well = (well-then max_snapshot_bytes s f g a h.well).0;
    well' = (well-then max_snapshot_bytes t f g b h.well').0;
  }

  -- the second stands at e and at h, where the first ends
  pub both-next : (f g : Fmt) {a b e h : ℕ} → Both (f then g) s t a b → e ≡ past f s a → h ≡ past f t b → Both g s t e h
  both-next f g {a} {b} w i j = record {
    bytes = w.bytes;
    bytes' = w.bytes';
    well = rw i (well-then max_snapshot_bytes s f g a w.well).1;
    well' = rw j (well-then max_snapshot_bytes t f g b w.well').1;
  }

  -- a field whose parts were compared as bytes
  pub field_is : (f : Fmt) (d : Agreement) {a b e g : ℕ} {r : Agreement} → Both f s t a b → e ≡ past f s a → g ≡ past f t b
      → r ≡ cond (same (span s a e) (span t b g)) compatible d → r ≡ field f d (value_at f s a) (value_at f t b)
  unfolding field
  field_is f d {a} {b} h i j k = k ∙ rw (i, j, written max_snapshot_bytes s h.bytes f a h.well, written max_snapshot_bytes t h.bytes' f b h.well')

-- entry i of two lists, compared as closures tell: where both end, and what they come to
pub record Entries (l : Lists) (s t : List ℕ) (i p q e f : ℕ) (x : Agreement) : Type 0 where
  pub end : e ≡ past (entry l.list) s p
  pub end' : f ≡ past (entry l.list) t q
  pub found : x ≡ field (entry l.list) (Err (l.of_entry i)) (value_at (entry l.list) s p) (value_at (entry l.list) t q)

pub entries_told : {l : Lists} {s t : List ℕ} {ends ends' : (at end : ℕ) → Type 0} {entries counts : (place : ℕ) → Difference → Type 0} → Tells l s t ends ends' entries counts
    → {i p q e f : ℕ} {d : Difference} {x : Agreement} → Both (entry l.list) s t p q → ends p e → ends' q f → entries i d
    → x ≡ cond (same (span s p e) (span t q f)) compatible (Err d) → Entries l s t i p q e f x
entries_told {l} r {i} b h k o g = record { end = r.ends-so h; end' = r.ends-so' k; found = field_is (entry l.list) (Err (l.of_entry i)) b (r.ends-so h) (r.ends-so' k) (g ∙ rw (r.entry-so o)) }

-- ---- a list by its count n and where its first entry stands, p
module _ (k r : Fmt) (l : ℕ) (u : Rule) (s : List ℕ) (a : ℕ) {n p : ℕ} (count : n ≡ number_at 4 s a) (first : p ≡ min (a + 4) (length s)) where
  pub list-values : values_at (value_at k s) (value_at r s) (past k s) (past r s) n p ≡ value_at (list 4 l u k r) s a
  unfolding value_at
  list-values = rw (count, first)

  pub list-past : skip (past k s) (past r s) n p ≡ past (list 4 l u k r) s a
  unfolding past
  list-past = rw (count, first)

-- ---- two lists of n and m entries, entry by entry
module _ (k r : Fmt) (c : ℕ → El (k then r) → El (k then r) → Agreement) (d : ℕ → Agreement) (s t : List ℕ) where
  abbrev pub entries_at : List ℕ → (n p : ℕ) → List (El (k then r))
  entries_at u n p = values_at (value_at k u) (value_at r u) (past k u) (past r u) n p

  -- what the entries behind those at p and q come to, of which n and m are left
  abbrev after : (i n m p q : ℕ) → Agreement
  after i n m p q = along c d (suc i) (entries_at s n (past r s (past k s p))) (entries_at t m (past r t (past k t q)))

  -- place i was reached, at p of s and at q of t. Both lists come to v, and they end at e and at f
  pub record Walking (v : Agreement) (e f n m p q i : ℕ) : Type 0 where
    pub bytes : AreBytes s
    pub bytes' : AreBytes t
    pub wells : WellEach max_snapshot_bytes (k then r) s (n - i) p
    pub wells' : WellEach max_snapshot_bytes (k then r) t (m - i) q
    pub is : along c d i (entries_at s (n - i) p) (entries_at t (m - i) q) ≡ v
    pub end : skip (past k s) (past r s) (n - i) p ≡ e
    pub end' : skip (past k t) (past r t) (m - i) q ≡ f
    pub reached : i ≤ min n m

module _ {k r : Fmt} {c : ℕ → El (k then r) → El (k then r) → Agreement} {d : ℕ → Agreement} {s t : List ℕ} where
  -- two lists that were read, at their first entries
  pub walk-here : (l : ℕ) (u : Rule) {a b n m p q : ℕ} → Both (list 4 l u k r) s t a b
      → n ≡ number_at 4 s a → m ≡ number_at 4 t b → p ≡ min (a + 4) (length s) → q ≡ min (b + 4) (length t)
      → Walking k r c d s t (along c d 0 (entries_at k r c d s t s n p) (entries_at k r c d s t t m q)) (skip (past k s) (past r s) n p) (skip (past k t) (past r t) m q) n m p q 0
  walk-here l u {a} {b} {n} {m} h i j x y =
      let ws = well-list max_snapshot_bytes s u k r 4 l a h.well in
      let wt = well-list max_snapshot_bytes t u k r 4 l b h.well' in
      let x' = x ∙ min-eq_left ws.0 in
      let y' = y ∙ min-eq_left wt.0 in
      record {
        bytes = h.bytes;
        bytes' = h.bytes';
        wells = rw (sub-zero n, i, x') ws.1;
        wells' = rw (sub-zero m, j, y') wt.1;
        is = rw (sub-zero n, sub-zero m);
        end = rw (sub-zero n);
        end' = rw (sub-zero m);
        reached = omega arith;
      }

  -- and so as the values of their formats
  pub walk_start : (l : ℕ) (u : Rule) {a b n m p q : ℕ} → Both (list 4 l u k r) s t a b
      → n ≡ number_at 4 s a → m ≡ number_at 4 t b → p ≡ min (a + 4) (length s) → q ≡ min (b + 4) (length t)
      → Walking k r c d s t (along c d 0 (value_at (list 4 l u k r) s a) (value_at (list 4 l u k r) t b)) (past (list 4 l u k r) s a) (past (list 4 l u k r) t b) n m p q 0
  walk_start l u {a} {b} h i j x y =
      rw (← list-values k r l u s a i x, ← list-values k r l u t b j y, ← list-past k r l u s a i x, ← list-past k r l u t b j y) (walk-here l u h i j x y)

  module _ {v : Agreement} {e f n m p q i : ℕ} (w : Walking k r c d s t v e f n m p q i) where
    -- ---- both lists have entries left
    module _ (some : i < min n m) where
      left : n - i ≡ suc (n - suc i)
      left = omega (arith, some)

      left' : m - i ≡ suc (m - suc i)
      left' = omega (arith, some)

      -- the next entries were read
      pub walk-both : Both (k then r) s t p q
      walk-both =
          let a = rw left at w.wells in
          let b = rw left' at w.wells' in
          record { bytes = w.bytes; bytes' = w.bytes'; well = a.0; well' = b.0 }

      -- what they come to, and those behind them
      walk-is : (c i (value_at (k then r) s p) (value_at (k then r) t q) or_else after k r c d s t i (n - suc i) (m - suc i) p q) ≡ v
      unfolding along value_at
      walk-is = rw (left, left') at w.is

      module _ {x : Agreement} (found : x ≡ c i (value_at (k then r) s p) (value_at (k then r) t q)) where
        -- they differ
        pub walk-found : {g : Difference} → x ≡ Err g → Err g ≡ v
        walk-found o = or-found _ found o ∙ walk-is

        -- they do not, and the walk goes on behind them
        pub walk-next : x ≡ compatible → {p' q' : ℕ} → p' ≡ past (k then r) s p → q' ≡ past (k then r) t q → Walking k r c d s t v e f n m p' q' (i + 1)
        unfolding past
        walk-next o y z =
            let a = rw left at w.wells in
            let b = rw left' at w.wells' in
            let next : i + 1 ≡ suc i = omega arith in
            rw (y, z, next) (record {
              bytes = w.bytes;
              bytes' = w.bytes';
              wells = a.1;
              wells' = b.1;
              is = ap (λ l. l or_else after k r c d s t i (n - suc i) (m - suc i) p q) (sym o ∙ found) ∙ walk-is;
              end = rw left at w.end;
              end' = rw left' at w.end';
              reached = omega (arith, some);
            })

    -- ---- one list has ended
    module _ (none : i ≡ min n m) {x : Agreement} (count : x ≡ cond (eqb n m) compatible (d i)) where
      -- what is left of the other decides
      pub walk_end : x ≡ v
      unfolding along
      walk_end = go (n - i) (m - i) refl refl
        where
          go : (a b : ℕ) → n - i ≡ a → m - i ≡ b → x ≡ v
          go zero zero y z = count ∙ rw (eq-eqb n m (omega (arith, w.reached))) (rw (y, z) at w.is)
          go zero (suc b) y z = count ∙ rw (ne_eqb n m (λ h. omega (arith, w.reached))) (rw (y, z) at w.is)
          go (suc a) zero y z = count ∙ rw (ne_eqb n m (λ h. omega (arith, w.reached))) (rw (y, z) at w.is)
          go (suc a) (suc b) y z = absurd (omega arith)

      -- and the other too, where that is no difference
      pub walk-ended : {g : Difference} → d i ≡ Err g → x ≡ compatible → (p ≡ e) × (q ≡ f)
      walk-ended {g} z y =
          let h = alike n m (sym count ∙ y) z in
          let a : n - i ≡ 0 = omega (arith, h) in
          let b : m - i ≡ 0 = omega (arith, h) in
          (rw a at w.end, rw b at w.end')
        where
          alike : (n m : ℕ) → cond (eqb n m) compatible (d i) ≡ compatible → d i ≡ Err g → n ≡ m
          alike n m u z = go (eqb n m) refl u
            where
              go : (b : Bool) → eqb n m ≡ b → cond b compatible (d i) ≡ compatible → n ≡ m
              go true h u = eqb-true n m h
              go false h u = cc
