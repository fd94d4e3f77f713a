-- The section that the verdict names: all before it is the same.
use Prim.Native.Nat.{ℕ, zero, suc, ◌+◌}
use native.Mathlib.Omega.{arith}
use mathlib.Core.Path.{◌≡◌, refl, subst}
use mathlib.Core.Bool.{true}
use mathlib.Core.List.{List, [], ◌∷◌}
use Rattle.std.proofs.lemmas.Bool.{and_parts as both}
use Rattle.std.specs.Prelude.{Ok, Err}
use Rattle.state.specs.declared.Difference.{Difference}
use Rattle.state_wire.specs.Fields.{max_snapshot_bytes}
use Rattle.format.specs.Format.{El}
use Rattle.format.specs.Admits.{Holds}
use Rattle.format.specs.Least.{honest}
use Rattle.format.specs.Manifest.{sequence, manifest}
use Rattle.format.proofs.Complete.{told}
use Rattle.format.proofs.Canonical.{manifest-honest}
use Rattle.verdict.specs.Verdict.{Agreement, compatible, differs, ◌or_else◌, Comparison, comparisons, formats, over}
use Rattle.verdict.proofs.Gives.{Gives, given}
use Rattle.verdict.proofs.Faithful.{AllFaithful, comparisons-faithful}

-- the sections before the j-th are the same in v and w, and the j-th compares as d
abbrev pub Reached : (j : ℕ) (cs : List Comparison) → (v w : El (sequence (formats cs))) → (d : Agreement) → Type 0
Reached j [] v w d = ⊥
Reached zero (c ∷ cs) v w d = c.compare v.0 w.0 ≡ d
Reached (suc j) (c ∷ cs) v w d = (v.0 ≡ w.0) × Reached j cs v.1 w.1 d

-- a difference of two is the first's, or the second's where the first is none
or_cases : {d : Difference} {R : Type 0} (a b : Agreement) → a or_else b ≡ Err d → (a ≡ Err d → R) → (a ≡ compatible → b ≡ Err d → R) → R
or_cases (Ok u) b h f g = g refl h
or_cases (Err c) b h f g = f h

-- of sections numbered from k on, a difference is what the section that it names compares as, and those before it are the same
over-reaches : (k : ℕ) (cs : List Comparison) → AllFaithful k cs → honest (sequence (formats cs)) ≡ true
    → (v w : El (sequence (formats cs))) → Holds max_snapshot_bytes (sequence (formats cs)) v → Holds max_snapshot_bytes (sequence (formats cs)) w
    → {d : Difference} → over cs v w ≡ Err d → (j : ℕ) × (d.section ≡ k + j) × Reached j cs v w (Err d)
unfolding over Holds honest
over-reaches k [] faithful t v w hv hw h = cc
over-reaches k (c ∷ cs) faithful t v w hv hw {d} h =
    let b = both (honest c.format) _ t in
    or_cases (c.compare v.0 w.0) (over cs v.1 w.1) h
    (λ e. (0, omega (arith, given (subst (Gives (λ d. d.section ≡ k)) e (faithful.0.within v.0 w.0))), e))
    (λ z e.
    let r = over-reaches (suc k) cs faithful.1 b.1 v.1 w.1 hv.1 hw.1 e in
    (suc r.0, omega (arith, r.1), (told max_snapshot_bytes c.format b.0 v.0 w.0 hv.0 hw.0 (faithful.0.alike v.0 w.0 z), r.2)))

-- and so of the twelve: section 1 + j is the j-th from 0 on
pub reached : (j : ℕ) (v w : El (sequence (formats comparisons))) → Holds max_snapshot_bytes (sequence (formats comparisons)) v
    → Holds max_snapshot_bytes (sequence (formats comparisons)) w
    → {p e i : ℕ} → over comparisons v w ≡ differs (suc j) p e i → Reached j comparisons v w (differs (suc j) p e i)
unfolding manifest
reached j v w hv hw {p} {e} {i} h =
    let r = over-reaches 1 comparisons comparisons-faithful manifest-honest v w hv hw h in
    let q : r.0 ≡ j = omega (arith, r.1) in
    subst (λ (n : ℕ). Reached n comparisons v w (differs (suc j) p e i)) q r.2
