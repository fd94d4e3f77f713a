-- What is asked of entries one by one: what a search for a key tells, and a walk over the entries, from each to the next.
use Prim.Native.Nat.{ℕ, ◌<◌}
use native.Mathlib.Omega.{arith}
use mathlib.Core.Path.{◌≡◌, sym, ap, subst}
use mathlib.Core.Bool.{Bool, true, false}
use mathlib.Core.List.{List, [], ◌∷◌}
use lib.ListN.{length, length-map}
use denote.Param.Members.{Mut}
use Rattle.std.specs.Prelude.{Option, Some, None, is_some}
use Rattle.std.specs.Fn.{Called}
use Rattle.std.specs.Iterator.{Yields, YieldsThen, AlwaysYields}
use Rattle.std.specs.List.{FoldsTo}
use Rattle.std.specs.Option.{MatchOption}
use Rattle.std.proofs.lemmas.Iterator.{YieldsList}
use Rattle.format.specs.Manifest.{connectors}
use Rattle.format.specs.Places.{key_at}
use Rattle.questions.specs.Sets.{all}
use Rattle.state_index.specs.Words.{Found}
use Rattle.state_layout.specs.Keys.{keys_of}
use Rattle.state_layout.proofs.Marked.{get-map, key_in}
use Rattle.state_references.specs.Known.{known_at}

-- ---- the connector whose key stands at a position
module _ {s words : List ℕ} (p : ℕ) {f : Option ℕ} (r : Found connectors s words (key_at connectors s p) f) where
  pub found_known : {i : ℕ} → f ≡ Some i → true ≡ known_at s (keys_of connectors s words) p
  unfolding known_at
  found_known {i} e =
      let h = r.at i e in
      let k : i < length (keys_of connectors s words) = omega (arith, h.0, length-map words (key_at connectors s)) in
      sym (rw (get-map (key_at connectors s) words i 0 [] h.0, h.1) at (key_in (keys_of connectors s words) i k))

-- ---- a walk: what a turn makes of a word and of what the one before it made, until it makes none
module _ {A F C : Type 0} (g : Mut F (C × (A × Unit {0})) (Option C)) where
  abbrev Turn : F × C → A → F × C → Type 0
  Turn p x q = (o : Option C) × Called g p.0 (p.1, (x, tt)) o q.0 × (o ≡ Some q.1)

  abbrev Ends : Type 0 → Option C → F → C → Option A → Type 0
  Ends E r j c o = MatchOption o (r ≡ Some c) (λ x. (w : Option C) × (h : F) × (e : E) × Called g j (c, (x, tt)) w h × (w ≡ None) × (r ≡ None))

  module _ {S : Type 0} (steps : S → Option A → S → Type 0) (v : A → ℕ) (t : ℕ → Bool) (f : F)
      (tells : (a : C) (x : A) (o : Option C) (q : F) → Called g f (a, (x, tt)) o q → (q ≡ f) × (is_some o ≡ t (v x))) (E : Type 0) (r : Option C) (j : F) (c : C) (u : S) where
    walk : (xs : List A) (words : List ℕ) (s m : S) (o : Option A) (a : C) → AlwaysYields steps v s words → Yields steps s xs m → steps m o u
        → FoldsTo {P = F × C} Turn (f, a) xs (j, c) → Ends E r j c o → is_some r ≡ all t words
    unfolding all
    walk [] [] s m None a e y p d h = rw h
    walk [] [] s m (Some x) a e y p d h = absurd (e x u (subst (λ k. steps k (Some x) u) (sym y) p))
    walk [] (z ∷ words) s m None a e y p d h = absurd (e.0 u (subst (λ k. steps k None u) (sym y) p))
    walk [] (z ∷ words) s m (Some x) a e y p d h =
        let z-is : v x ≡ z = (e.1 x u (subst (λ k. steps k (Some x) u) (sym y) p)).0 in
        let same : j ≡ f = sym (ap (λ (q : F × C). q.0) d) in
        let no : false ≡ t z = rw (h.4, z-is) at (tells c x h.0 h.1 (subst (λ k. Called g k (c, (x, tt)) h.0 h.1) same h.3)).1 in
        rw (h.5, ← no)
    walk (x ∷ xs) [] s m o a e y p d h = absurd (e x y.0 y.1)
    walk (x ∷ xs) (z ∷ words) s m o a e y p d h =
        let n = e.1 x y.0 y.1 in
        let told = tells a x d.1.0 d.0.0 d.1.1 in
        let yes : true ≡ t z = rw (d.1.2, n.0) at told.1 in
        rw (← yes) (walk xs words y.0 m o d.0.1 n.1 y.2 p (subst (λ k. FoldsTo {P = F × C} Turn (k, d.0.1) xs (j, c)) told.0 d.2) h)

pub walked : {S A F C E : Type 0} {steps : S → Option A → S → Type 0} {v : A → ℕ} {g : Mut F (C × (A × Unit {0})) (Option C)} {s : S} {words : List ℕ} (t : ℕ → Bool) (u : S) (f : F) (a : C) (r : Option C)
    → (xs : List A) × (o : Option A) × (j : F) × (c : C) × YieldsThen steps s xs o u × FoldsTo {P = F × C} (Turn g) (f, a) xs (j, c) × Ends g E r j c o
    → YieldsList steps v s words → ((a : C) (x : A) (o : Option C) (q : F) → Called g f (a, (x, tt)) o q → (q ≡ f) × (is_some o ≡ t (v x))) → is_some r ≡ all t words
walked {E = E} {steps = steps} {v = v} {g = g} {s = s} {words = words} t u f a r d y tells =
    walk g steps v t f tells E r d.2 d.3 u d.0 words s d.4.0 d.1 a y.runs d.4.1 d.4.2 d.5 d.6
