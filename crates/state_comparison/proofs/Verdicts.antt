-- The sections of two manifests, one after another.
use Prim.Native.Nat.{ℕ, zero, suc, ◌+◌, ◌-◌, ◌≤◌, ◌<◌}
use native.Mathlib.Omega.{arith}
use mathlib.Core.Path.{◌≡◌, refl, sym, ap, ◌∙◌, subst}
use mathlib.Core.Bool.{Bool, true, false}
use mathlib.Core.List.{List, [], ◌∷◌}
use mathlib.Core.Logic.{inl, inr}
use lib.ListN.{length, get_or}
use types.Run.{OneOf}
use Rattle.std.proofs.lemmas.Bool.{and_parts as both}
use Rattle.std.proofs.lemmas.List.{get_or_default}
use Rattle.state.specs.Bytes.{span}
use Rattle.std.specs.Prelude.{Ok, Err}
use Rattle.format.specs.Lists.{same}
use Rattle.format.specs.Least.{honest}
use Rattle.format.specs.Manifest.{sequence, input_definitions, manifest}
use Rattle.format.specs.Places.{section_starts, manifest_starts, past}
use Rattle.format.specs.Values.{value_at, Well}
use Rattle.format.proofs.Lists.{same_true, same_differs}
use Rattle.format.proofs.Complete.{same_bytes}
use Rattle.format.proofs.Canonical.{manifest-honest}
use Rattle.format.proofs.Places.{end-got}
use Rattle.format.proofs.Values.{well-then, written}
use Rattle.verdict.specs.Verdict.{Agreement, compatible, differs, ◌or_else◌, Comparison, whole, entrywise, comparisons, formats, over, verdict}
use Rattle.verdict.proofs.Faithful.{Faithful, AllFaithful, comparisons-faithful}
use Rattle.state_layout.specs.Tables.{manifest_of}
use Rattle.state_layout.proofs.Tables.{limit}
use Rattle.state_comparison.specs.Comparing.{Both, comparison, Stands}
use Rattle.state_layout.proofs.Starts.{starts-twelve}
use Rattle.state_comparison.proofs.Comparing.{or-next, or-found, both_first, both-next, field_is}

-- ---- one of the comparisons
abbrev pick : List Comparison → ℕ → Comparison
pick cs i = get_or cs i (entrywise 12 input_definitions)

-- it finds what it must
faithful-at : (k : ℕ) (cs : List Comparison) (i : ℕ) → i < length cs → AllFaithful k cs → Faithful (k + i) (pick cs i)
faithful-at k [] i h a = absurd (omega arith)
faithful-at k (c ∷ cs) zero h a = let e : k + 0 ≡ k = omega arith in rw e a.0
faithful-at k (c ∷ cs) (suc i) h a = let e : k + suc i ≡ suc k + i = omega arith in rw e (faithful-at (suc k) cs i (omega arith) a.1)

-- its format is honest where all are
honest-at : (cs : List Comparison) (i : ℕ) → i < length cs → honest (sequence (formats cs)) ≡ true → honest (pick cs i).format ≡ true
unfolding honest
honest-at [] i h e = absurd (omega arith)
honest-at (c ∷ cs) zero h e = (both (honest c.format) _ e).0
honest-at (c ∷ cs) (suc i) h e = honest-at cs i (omega arith) (both (honest c.format) _ e).1

-- ---- where the i-th section starts, of those that start at a
abbrev start_at : List ℕ → List Comparison → (i a : ℕ) → ℕ
start_at u cs zero a = a
start_at u [] (suc i) a = a
start_at u (c ∷ cs) (suc i) a = start_at u cs i (past c.format u a)

module _ (u : List ℕ) where
  -- the next one starts where it ends
  start-next : (cs : List Comparison) (i a : ℕ) → i < length cs → start_at u cs (suc i) a ≡ past (pick cs i).format u (start_at u cs i a)
  start-next [] i a h = absurd (omega arith)
  start-next (c ∷ cs) zero a h = refl
  start-next (c ∷ cs) (suc i) a h = start-next cs i (past c.format u a) (omega arith)

  -- of what was read to the end
  start_is : (cs : List Comparison) (i a : ℕ) → i ≤ length cs → Well limit (sequence (formats cs)) u a → past (sequence (formats cs)) u a ≡ length u
      → get_or (section_starts limit (formats cs) u a) i (length u) ≡ start_at u cs i a
  unfolding section_starts past
  start_is [] zero a h w e = sym e
  start_is [] (suc i) a h w e = absurd (omega arith)
  start_is (c ∷ cs) zero a h w e = refl
  start_is (c ∷ cs) (suc i) a h w e =
      let p = well-then limit u c.format (sequence (formats cs)) a w in
      rw (end-got limit c.format u a p.0.reads) (start_is cs i (past c.format u a) (omega arith) p.1 e)

-- ---- what the sections from the i-th on come to
module _ (s t : List ℕ) where
  abbrev left_from : List Comparison → (i a b : ℕ) → Agreement
  left_from cs zero a b = over cs (value_at (sequence (formats cs)) s a) (value_at (sequence (formats cs)) t b)
  left_from [] (suc i) a b = compatible
  left_from (c ∷ cs) (suc i) a b = left_from cs i (past c.format s a) (past c.format t b)

  -- what the i-th comes to
  abbrev at_place : (c : Comparison) (a b : ℕ) → Agreement
  at_place c a b = c.compare (value_at c.format s a) (value_at c.format t b)

  -- that one, or else those behind it
  left-next : (cs : List Comparison) (i a b : ℕ) → i < length cs
      → (at_place (pick cs i) (start_at s cs i a) (start_at t cs i b) or_else left_from cs (suc i) a b) ≡ left_from cs i a b
  unfolding over value_at
  left-next [] i a b h = absurd (omega arith)
  left-next (c ∷ cs) zero a b h = refl
  left-next (c ∷ cs) (suc i) a b h = left-next cs i (past c.format s a) (past c.format t b) (omega arith)

  -- behind the last there is none
  left-none : (cs : List Comparison) (i a b : ℕ) → i ≡ length cs → left_from cs i a b ≡ compatible
  unfolding over
  left-none [] zero a b h = refl
  left-none [] (suc i) a b h = refl
  left-none (c ∷ cs) zero a b h = absurd (omega arith)
  left-none (c ∷ cs) (suc i) a b h = left-none cs i (past c.format s a) (past c.format t b) (omega arith)

  -- sections that were read one after the other were read each at its start
  both_at : (cs : List Comparison) (i a b : ℕ) → i < length cs → Both (sequence (formats cs)) s t a b → Both (pick cs i).format s t (start_at s cs i a) (start_at t cs i b)
  both_at [] i a b h w = absurd (omega arith)
  both_at (c ∷ cs) zero a b h w = both_first c.format (sequence (formats cs)) w
  both_at (c ∷ cs) (suc i) a b h w = both_at cs i (past c.format s a) (past c.format t b) (omega arith) (both-next c.format (sequence (formats cs)) w refl refl)

-- ---- by their numbers
-- the sections that are walked
abbrev Walked : ℕ → Type 0
Walked = OneOf (3 ∷ 2 ∷ 4 ∷ 12 ∷ [])

-- of those numbered from k on, all others are compared as a whole
abbrev Wholes : ℕ → List Comparison → Type 0
Wholes k [] = Unit
Wholes k (c ∷ cs) = ((Walked k → ⊥) → c ≡ whole k c.format) × Wholes (suc k) cs

wholes : Wholes 1 comparisons
wholes = (λ _. refl, (λ n. absurd (n (inr (inl refl))), (λ n. absurd (n (inl refl)), (λ n. absurd (n (inr (inr (inl refl)))), (λ _. refl, (λ _. refl, (λ _. refl, (λ _. refl, (λ _. refl, (λ _. refl, (λ _. refl, (λ n. absurd (n (inr (inr (inr refl)))), tt))))))))))))

whole-at : (k : ℕ) (cs : List Comparison) (i : ℕ) → i < length cs → Wholes k cs → (Walked (k + i) → ⊥) → pick cs i ≡ whole (k + i) (pick cs i).format
whole-at k [] i h a n = absurd (omega arith)
whole-at k (c ∷ cs) zero h a n = let e : k + 0 ≡ k = omega arith in rw e (a.0 (rw e at n))
whole-at k (c ∷ cs) (suc i) h a n = let e : k + suc i ≡ suc k + i = omega arith in rw e (whole-at (suc k) cs i (omega arith) a.1 (rw e at n))

whole_is : (k : ℕ) → (1 ≤ k) × (k ≤ 12) → (Walked k → ⊥) → comparison k ≡ whole k (comparison k).format
unfolding comparison
whole_is k h n =
    let e : 1 + (k - 1) ≡ k = omega (arith, h.0) in
    subst (λ x. pick comparisons (k - 1) ≡ whole x (pick comparisons (k - 1)).format) e
    (whole-at 1 comparisons (k - 1) (omega (arith, h.0, h.1)) wholes (λ w. n (subst Walked e w)))

module _ (s t : List ℕ) (a b : ℕ) where
  -- a whole section whose bytes differ
  pub whole-differs : (k : ℕ) → (1 ≤ k) × (k ≤ 12) → (Walked k → ⊥) → Both (comparison k).format s t a b
      → same (span s a (past (comparison k).format s a)) (span t b (past (comparison k).format t b)) ≡ false → differs k 0 0 0 ≡ at_place s t (comparison k) a b
  whole-differs k h n w d =
      subst (λ c. differs k 0 0 0 ≡ at_place s t c a b) (sym (whole_is k h n))
      (field_is (comparison k).format (differs k 0 0 0) w refl refl (rw d))

-- ---- the walk over the sections
-- those before section k are alike
pub record Left (s t : List ℕ) (k : ℕ) : Type 0 where
  pub from : 1 ≤ k
  pub to : k ≤ 13
  pub is : left_from s t comparisons (k - 1) 0 0 ≡ verdict (manifest_of s) (manifest_of t)

-- before the first comparison, and behind the last
pub left-start : (s t : List ℕ) → Left s t 1
unfolding verdict manifest
left-start s t = record { from = omega arith; to = omega arith; is = refl }

pub left_end : {s t : List ℕ} {k : ℕ} → Left s t k → 12 < k → compatible ≡ verdict (manifest_of s) (manifest_of t)
left_end {s} {t} {k} l h = sym (left-none s t comparisons (k - 1) 0 0 (omega (arith, l.to))) ∙ l.is

-- the starts of a manifest's sections are where they stand
start_there : {u starts : List ℕ} → Stands u starts → (i : ℕ) → i ≤ 12 → get_or starts i (length u) ≡ start_at u comparisons i 0
unfolding manifest manifest_starts
start_there {u} p i h = rw p.starts-are (start_is u comparisons i 0 h p.well p.ends)

-- section k of one, which starts at a
module _ {u starts : List ℕ} (p : Stands u starts) {k : ℕ} (from : 1 ≤ k) (to : k ≤ 12) {a : ℕ} (ea : a ≡ get_or starts (k - 1) 0) where
  twelve : length starts ≡ 12
  twelve = ap length p.starts-are ∙ starts-twelve u

  section-start : a ≡ start_at u comparisons (k - 1) 0
  section-start = ea ∙ get_or_default starts (k - 1) 0 (length u) (omega (arith, twelve)) ∙ start_there p (k - 1) (omega arith)

  section-end : get_or starts k (length u) ≡ past (comparison k).format u a
  unfolding comparison
  section-end =
      let x : k ≡ suc (k - 1) = omega arith in
      ap (λ (i : ℕ). get_or starts i (length u)) x ∙ start_there p (suc (k - 1)) (omega arith) ∙ start-next u comparisons (k - 1) 0 (omega arith) ∙ rw section-start

  -- its bytes
  section-is : {x : List ℕ} → x ≡ span u (get_or starts (k - 1) 0) (get_or starts k (length u)) → x ≡ span u a (past (comparison k).format u a)
  section-is e = e ∙ rw (← ea, section-end)

module _ {s t starts starts' : List ℕ} (p : Stands s starts) (q : Stands t starts') where
  -- section k, at a of s and at b of t
  module _ {k : ℕ} (l : Left s t k) (h : k ≤ 12) {a b : ℕ} (ea : a ≡ get_or starts (k - 1) 0) (eb : b ≡ get_or starts' (k - 1) 0) where
    place : k - 1 < 12
    place = omega (arith, l.from)

    pub section-both : Both (comparison k).format s t a b
    unfolding manifest comparison
    section-both =
        rw (section-start p l.from h ea, section-start q l.from h eb)
        (both_at s t comparisons (k - 1) 0 0 place (record { bytes = p.bytes; bytes' = q.bytes; well = p.well; well' = q.well }))

    -- what it comes to, and what those behind it do
    comes-to : (at_place s t (comparison k) a b or_else left_from s t comparisons (suc (k - 1)) 0 0) ≡ verdict (manifest_of s) (manifest_of t)
    unfolding comparison
    comes-to = rw (section-start p l.from h ea, section-start q l.from h eb) (left-next s t comparisons (k - 1) 0 0 place) ∙ l.is

    faithful : Faithful (1 + (k - 1)) (comparison k)
    unfolding comparison
    faithful = faithful-at 1 comparisons (k - 1) place comparisons-faithful

    honest-here : honest (comparison k).format ≡ true
    unfolding manifest comparison
    honest-here = honest-at comparisons (k - 1) place manifest-honest

    -- its bytes u and v were tested
    module _ {x : Bool} {u v : List ℕ} (eu : u ≡ span s (get_or starts (k - 1) 0) (get_or starts k (length s))) (ev : v ≡ span t (get_or starts' (k - 1) 0) (get_or starts' k (length t)))
        (test : x ≡ same u v) where
      bytes_same : x ≡ same (span s a (past (comparison k).format s a)) (span t b (past (comparison k).format t b))
      bytes_same = test ∙ rw (section-is p l.from h ea eu, section-is q l.from h eb ev)

      -- they differ
      module _ (differ : x ≡ false) where
        pub section-apart : same (span s a (past (comparison k).format s a)) (span t b (past (comparison k).format t b)) ≡ false
        section-apart = sym bytes_same ∙ differ

        pub section-found : {r : Agreement} → r ≡ at_place s t (comparison k) a b → r ≡ verdict (manifest_of s) (manifest_of t)
        section-found {r} g = go r g ∙ comes-to
          where
            go : (r : Agreement) → r ≡ at_place s t (comparison k) a b → r ≡ (at_place s t (comparison k) a b or_else left_from s t comparisons (suc (k - 1)) 0 0)
            go (Ok u) g =
                let z = faithful.alike _ _ (sym g) in
                absurd (same_differs _ _ section-apart (sym (written limit s p.bytes (comparison k).format a section-both.well) ∙ z ∙ written limit t q.bytes (comparison k).format b section-both.well'))
            go (Err d) g = or-found _ g refl

      -- they are the same
      pub section-same : x ≡ true → Left s t (k + 1)
      section-same y =
          let w = section-both in
          let v = (same_bytes limit (comparison k).format honest-here s t p.bytes q.bytes a b _ _ _ _ w.well.here w.well'.here w.well.reads w.well'.reads).1
          (same_true _ _ (sym bytes_same ∙ y)) in
          let n : k + 1 - 1 ≡ suc (k - 1) = omega (arith, l.from) in
          record {
            from = omega arith;
            to = omega arith;
            is = ap (λ (j : ℕ). left_from s t comparisons j 0 0) n ∙ or-next refl (ap ((comparison k).compare _) (sym v) ∙ faithful.self _) refl ∙ comes-to;
          }
