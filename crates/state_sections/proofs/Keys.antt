-- What reading one key after another comes to, as a fold that stops at the first refusal.
use Prim.Native.Nat.{ℕ, ◌-◌}
use native.Mathlib.Omega.{arith}
use mathlib.Core.Path.{◌≡◌, refl, sym, ap, subst, ◌∙◌}
use mathlib.Core.List.{List, [], ◌∷◌}
use denote.Param.Members.{Mut, Called}
use Rattle.std.proofs.Common.{ControlFlow, Continue, Break, Option, Some, None}
use Rattle.std.specs.declared.ops.Range.{Range}
use Rattle.std.proofs.iter.Yields.{nat_range_steps}
use Rattle.std.specs.Iterator.{Yields, TryFoldTurn}
use Rattle.std.specs.List.{FoldsTo}
use Rattle.std.specs.Option.{MatchOption}
use Rattle.std.specs.Prelude.{Ok, Err}
use Rattle.state.specs.declared.Refusal.{Refusal}
use Rattle.state.specs.Outcome.{Stepped}
use Rattle.format.specs.Format.{Fmt, free, done, scan}
use Rattle.format.proofs.Entries.{Going, going_end, going-key-stop, going-free}
use Rattle.state_sections.proofs.Filling.{going-left}

module _ {F E : Type 0} (g : Mut F (ℕ × (ℕ × Unit {0})) Stepped) (branches : Stepped → ControlFlow E ℕ → Type 0) (resumes : E → Stepped → Type 0) where
  -- what comes of a turn at which no entry is left, or of a call that was refused
  abbrev Last : F → ℕ → Stepped → Option ℕ → Type 0
  Last f a r o = MatchOption o (branches r (Continue a)) (λ x. (v : Stepped) × (h : F) × (e : E) × Called g f (a, (x, tt)) v h × branches v (Break e) × resumes e r)

  module _ (limit : ℕ) (k : Fmt) (s : List ℕ) {whole : Stepped} (c : F)
      (calls : (f f' : F) (p x : ℕ) (v : Stepped) → f ≡ c → Called g f (p, (x, tt)) v f' → (v ≡ scan limit k s p) × (f' ≡ c))
      (goes : (v : Stepped) (n : ℕ) → branches v (Continue n) → v ≡ Ok n)
      (stops : (v r : Stepped) (e : E) → branches v (Break e) → resumes e r → (d : Refusal ℕ) × (v ≡ Err d) × (r ≡ Err d)) where
    last-turn : (j u : Range ℕ) (f : F) (a : ℕ) (r : Stepped) (o : Option ℕ) → f ≡ c → Going whole limit free k done s (j.end - j.start) a [] → nat_range_steps j o u → Last f a r o → r ≡ whole
    last-turn j u f a r None h w t l = goes r a l ∙ going_end w (omega (arith, t.1.0)) refl
    last-turn j u f a r (Some x) h w t l =
        let d = stops l.0 r l.2 l.4 l.5 in
        d.2 ∙ sym d.1 ∙ going-key-stop w t.1.0 (calls f l.1 a x l.0 h l.3).0 d.1

    pub keys-read : (xs : List ℕ) (i j u : Range ℕ) (f f' : F) (p a : ℕ) (r : Stepped) (o : Option ℕ) → f ≡ c → Going whole limit free k done s (i.end - i.start) p [] → Yields nat_range_steps i xs j → nat_range_steps j o u
        → FoldsTo {P = F × ℕ} (TryFoldTurn g branches) (f, p) xs (f', a) → Last f' a r o → r ≡ whole
    keys-read [] i j u f f' p a r o h w y t b l =
        let e : f ≡ f' = ap (λ (z : F × ℕ). z.0) b in
        let q : p ≡ a = ap (λ (z : F × ℕ). z.1) b in
        last-turn j u f' a r o (sym e ∙ h) (subst (λ (z : ℕ). Going whole limit free k done s (j.end - j.start) z []) q (subst (λ (z : Range ℕ). Going whole limit free k done s (z.end - z.start) p []) y w)) t l
    keys-read (x ∷ xs) i j u f f' p a r o h w y t b l =
        let q : (i.end - i.start) - 1 ≡ y.0.end - y.0.start = omega (arith, y.1) in
        let v = calls f b.0.0 p x b.1.0 h b.1.1 in
        keys-read xs y.0 j u b.0.0 f' b.0.1 a r o v.1 (going-left (going-free w y.1.1.0 v.0 (goes b.1.0 b.0.1 b.1.2)) q) y.2 t b.2 l
