-- Questions 27 and 28 of paths that are sorted: neighbours decide.
use Prim.Native.Nat.{ℕ}
use native.Mathlib.Omega.{arith}
use mathlib.Core.Path.{◌≡◌, refl, sym, ◌∙◌, subst}
use mathlib.Core.Bool.{Bool, true, false, not, cond, ◌&&◌, ◌||◌, and-false}
use mathlib.Core.List.{List, [], ◌∷◌, map, Permᴰ}
use Rattle.std.proofs.lemmas.Bool.{and_parts as both}
use Rattle.format.specs.Lists.{same, is_in}
use Rattle.format.proofs.Lists.{same_true, same_refl, same-sym}
use Rattle.questions.specs.Sets.{all, count_different}
use Rattle.questions.proofs.Sets.{all_both}
use Rattle.questions.specs.Inputs.{same_type}
use Rattle.state_index.specs.declared.SortKey.TheVariants.{Text}
use Rattle.state_index.specs.Keys.{text_at, at_most, sort_key}
use Rattle.state_index.specs.Sort.{Below, Ordered}
use Rattle.state_index.proofs.Order.{leq, leq-antisym}
use Rattle.state_index.proofs.Sorting.{in-perm}
use Rattle.state_io.specs.Paths.{type_at, agree, all_agree, agree_next, neighbours_agree, differ_next, count_runs}
use Rattle.state_io.proofs.Bools.{all-ext, all-perm}
use Rattle.state_io.proofs.Types.{type-refl, type-sym, type-trans}

-- ---- a test of pairs
-- each with those behind it
abbrev after : (ℕ → ℕ → Bool) → List ℕ → Bool
after r [] = true
after r (p ∷ ps) = all (r p) ps && after r ps

twice : (p q : Bool) → (p && (p && q)) ≡ (p && q)
twice true q = refl
twice false q = refl

-- which is of each with each, where the test is symmetric
pairs-after : (r : ℕ → ℕ → Bool) → ((p : ℕ) → r p p ≡ true) → ((p q : ℕ) → r p q ≡ r q p) → (ps : List ℕ) → all (λ p. all (r p) ps) ps ≡ after r ps
unfolding all
pairs-after r own turned [] = refl
pairs-after r own turned (p ∷ ps) =
    rw (own p, all_both (λ q. r q p) (λ q. all (r q) ps) ps, all-ext (λ q. r q p) (r p) (λ q. turned q p) ps, pairs-after r own turned ps)
    (twice (all (r p) ps) (after r ps))

-- ---- texts in order
module _ (s : List ℕ) where
  abbrev in_order : ℕ → ℕ → Bool
  in_order a b = leq (text_at s a) (text_at s b)

  in_order-texts : (ps : List ℕ) → Ordered (at_most Text s) ps → Ordered in_order ps
  unfolding at_most sort_key
  in_order-texts ps o = o

  agree-own : (p : ℕ) → agree s p p ≡ true
  unfolding agree
  agree-own p = rw (same_refl (text_at s p), type-refl (type_at s p))

  agree-turned : (p q : ℕ) → agree s p q ≡ agree s q p
  unfolding agree
  agree-turned p q = rw (same-sym (text_at s p) (text_at s q), type-sym (type_at s p) (type_at s q))

  -- of three in order: where the outer two are one, so is the one between
  agree-over : (p q z : ℕ) → in_order p q ≡ true → in_order q z ≡ true → agree s p q ≡ true → agree s q z ≡ true → agree s p z ≡ true
  unfolding agree
  agree-over p q z h k a b = go (same (text_at s p) (text_at s z)) refl
    where
      go : (t : Bool) → same (text_at s p) (text_at s z) ≡ t → (not t || same_type (type_at s p) (type_at s z)) ≡ true
      go false e = refl
      go true e =
          let i : text_at s p ≡ text_at s z = same_true (text_at s p) (text_at s z) e in
          let j : text_at s p ≡ text_at s q = leq-antisym (text_at s p) (text_at s q) h (rw i k) in
          let a' : same_type (type_at s p) (type_at s q) ≡ true = rw (j, same_refl (text_at s q)) at a in
          let b' : same_type (type_at s q) (type_at s z) ≡ true = rw (← j, i, same_refl (text_at s z)) at b in
          type-trans (type_at s p) (type_at s q) (type_at s z) a' b'

  all-over : (p q : ℕ) (ps : List ℕ) → in_order p q ≡ true → Below in_order q ps → agree s p q ≡ true
      → all (agree s q) ps ≡ true → all (agree s p) ps ≡ true
  unfolding all
  all-over p q [] h b a e = refl
  all-over p q (z ∷ ps) h b a e =
      let d = both (agree s q z) (all (agree s q) ps) e in
      rw (agree-over p q z h b.0 a d.0) (all-over p q ps h b.1 a d.1)

  next-all : (p : ℕ) (ps : List ℕ) → Ordered in_order (p ∷ ps) → (agree_next s p ps && after (agree s) ps) ≡ (all (agree s p) ps && after (agree s) ps)
  unfolding agree_next all
  next-all p [] o = refl
  next-all p (q ∷ ps) o = go (agree s p q) refl (all (agree s q) ps) refl
    where
      rest : Bool
      rest = after (agree s) ps

      go : (a : Bool) → agree s p q ≡ a → (b : Bool) → all (agree s q) ps ≡ b → (a && (b && rest)) ≡ ((a && all (agree s p) ps) && (b && rest))
      go false i b j = refl
      go true i false j = sym (and-false (all (agree s p) ps))
      go true i true j = rw (all-over p q ps o.0.0 o.1.0 i j)

  neighbours-after : (ps : List ℕ) → Ordered in_order ps → neighbours_agree s ps ≡ after (agree s) ps
  unfolding neighbours_agree
  neighbours-after [] o = refl
  neighbours-after (p ∷ ps) o = rw (neighbours-after ps o.1) (next-all p ps o)

  -- "27. One type for each external path?"
  pub neighbours-agree : (ps : List ℕ) → Ordered (at_most Text s) ps → neighbours_agree s ps ≡ all_agree s ps
  unfolding all_agree
  neighbours-agree ps o = neighbours-after ps (in_order-texts ps o) ∙ sym (pairs-after (agree s) agree-own agree-turned ps)

  pub agree-perm : {l r : List ℕ} → Permᴰ l r → all_agree s l ≡ all_agree s r
  unfolding all_agree
  agree-perm {l} {r} p = all-ext (λ q. all (agree s q) l) (λ q. all (agree s q) r) (λ q. all-perm (agree s q) p) l ∙ all-perm (λ q. all (agree s q) r) p

  -- ---- how many paths
  not_behind : (p q : ℕ) (ps : List ℕ) → same (text_at s p) (text_at s q) ≡ false → in_order p q ≡ true → Below in_order q ps
      → is_in (text_at s p) (map (text_at s) ps) ≡ false
  unfolding is_in
  not_behind p q [] e h b = refl
  not_behind p q (z ∷ ps) e h b = go (same (text_at s p) (text_at s z)) refl (not_behind p q ps e h b.1)
    where
      go : (t : Bool) → same (text_at s p) (text_at s z) ≡ t → is_in (text_at s p) (map (text_at s) ps) ≡ false
          → (t || is_in (text_at s p) (map (text_at s) ps)) ≡ false
      go false i k = k
      go true i k =
          let j : text_at s p ≡ text_at s q = leq-antisym (text_at s p) (text_at s q) h (rw (same_true (text_at s p) (text_at s z) i) b.0) in
          rw (j, same_refl (text_at s q)) at e

  next-differs : (p : ℕ) (ps : List ℕ) → Ordered in_order (p ∷ ps) → differ_next s p ps ≡ cond (is_in (text_at s p) (map (text_at s) ps)) 0 1
  unfolding differ_next is_in
  next-differs p [] o = refl
  next-differs p (q ∷ ps) o = go (same (text_at s p) (text_at s q)) refl
    where
      go : (t : Bool) → same (text_at s p) (text_at s q) ≡ t → ◌≡◌ {A = ℕ} (cond t 0 1) (cond (t || is_in (text_at s p) (map (text_at s) ps)) 0 1)
      go true i = refl
      go false i = rw (not_behind p q ps i o.0.0 o.1.0)

  runs-ordered : (ps : List ℕ) → Ordered in_order ps → count_runs s ps ≡ count_different (map (text_at s) ps)
  unfolding count_runs count_different
  runs-ordered [] o = refl
  runs-ordered (p ∷ ps) o = rw (next-differs p ps o, runs-ordered ps o.1)

  pub runs-different : (ps : List ℕ) → Ordered (at_most Text s) ps → count_runs s ps ≡ count_different (map (text_at s) ps)
  runs-different ps o = runs-ordered ps (in_order-texts ps o)

count-swap : (a b : List ℕ) (ks : List (List ℕ)) → count_different (a ∷ (b ∷ ks)) ≡ count_different (b ∷ (a ∷ ks))
unfolding count_different is_in
count-swap a b ks = go (same a b) refl
  where
    go : (t : Bool) → same a b ≡ t → count_different (a ∷ (b ∷ ks)) ≡ count_different (b ∷ (a ∷ ks))
    go true i = subst (λ (x : List ℕ). count_different (a ∷ (x ∷ ks)) ≡ count_different (x ∷ (a ∷ ks))) (same_true a b i) refl
    go false i = rw (i, sym (same-sym a b) ∙ i) (omega arith)

-- "28. As many definitions as such paths"
pub count-perm : {l r : List (List ℕ)} → Permᴰ l r → count_different l ≡ count_different r
unfolding count_different
count-perm Permᴰ.nil = refl
count-perm (Permᴰ.cons {b = b} e p) = rw (e, in-perm b p, count-perm p)
count-perm (Permᴰ.swap {a = a} {b = b} {l = l} e f) = rw (← e, ← f) (count-swap a b l)
count-perm (Permᴰ.trans p q) = count-perm p ∙ count-perm q
