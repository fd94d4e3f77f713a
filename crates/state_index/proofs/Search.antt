-- A search for a key among words whose entries stand in order.
use Prim.Native.Nat.{ℕ, zero, suc, ◌+◌, ◌≤◌, ◌<◌}
use native.Mathlib.Omega.{arith}
use native.Mathlib.Decide.{dec_lt}
use mathlib.Core.Path.{◌≡◌, refl, sym, ap, ◌∙◌}
use mathlib.Core.Bool.{Bool, true, false}
use mathlib.Core.List.{List, [], ◌∷◌, map}
use lib.ListN.{length, get_or}
use Rattle.std.specs.Prelude.{Some, None}
use Rattle.std.specs.declared.cmp.Ordering.{Ordering}
use Rattle.std.specs.declared.cmp.Ordering.TheVariants.{Less, Equal, Greater}
use Rattle.order.specs.declared.Compared.{Compared}
use Rattle.order.specs.Lex.{lex_compare, compared}
use Rattle.order.proofs.Laws.{turned, lex-turned, lex-equal-iff}
use Rattle.format.specs.Lists.{same, is_in}
use Rattle.format.proofs.Lists.{same_true}
use Rattle.format.specs.Manifest.{Section}
use Rattle.format.specs.Places.{key_at}
use Rattle.state_index.specs.Sort.{Below, Ordered}
use Rattle.state_index.specs.Find.{key_at_most}
use Rattle.state_index.specs.Words.{Found}
use Rattle.state_index.proofs.Order.{leq, less_then, then_less, less-not-same, greater-not-same}

-- ---- in order, place by place
module _ (le : ℕ → ℕ → Bool) where
  below_get : (x : ℕ) (l : List ℕ) → Below le x l → (j : ℕ) → j < length l → le x (get_or l j 0) ≡ true
  below_get x [] b j h = absurd (omega arith)
  below_get x (y ∷ l) b zero h = b.0
  below_get x (y ∷ l) b (suc j) h = below_get x l b.1 j (omega arith)

  pub ordered-get : (l : List ℕ) → Ordered le l → (i j : ℕ) → i < j → j < length l → le (get_or l i 0) (get_or l j 0) ≡ true
  ordered-get [] o i j h k = absurd (omega arith)
  ordered-get (x ∷ l) o i zero h k = absurd (omega arith)
  ordered-get (x ∷ l) o zero (suc j) h k = below_get x l o.0 j (omega arith)
  ordered-get (x ∷ l) o (suc i) (suc j) h k = ordered-get l o.1 i j (omega arith) (omega arith)

-- ---- a key that no entry has
pub not_in : (key : List ℕ) (f : ℕ → List ℕ) (l : List ℕ) → ((i : ℕ) → i < length l → same key (f (get_or l i 0)) ≡ false) → is_in key (map f l) ≡ false
unfolding is_in
not_in key f [] h = refl
not_in key f (x ∷ l) h = rw (h zero (omega arith)) (not_in key f l (λ i k. h (suc i) (omega arith)))

module _ (e : Section) (s words key : List ℕ) where
  -- the key of the entry at a place
  abbrev of : ℕ → List ℕ
  of j = key_at e s (get_or words j 0)

  -- what was compared with the entry at a place
  pub compared_with : (i : ℕ) {p : ℕ} {x : List ℕ} {c : Compared} {o : Ordering} → p ≡ get_or words i 0 → x ≡ key_at e s p → c ≡ compared key x → c.order ≡ o → lex_compare key (of i) ≡ o
  compared_with i j k l m = rw (← j, ← k, ← m, l)

  -- bytes that are the same as those of the entry at a place
  pub same_with : (i : ℕ) {p : ℕ} {x : List ℕ} {b : Bool} → p ≡ get_or words i 0 → x ≡ key_at e s p → b ≡ same x key → b ≡ true → of i ≡ key
  same_with i j k l m = rw (← j, ← k) (same_true _ key (sym l ∙ m))

  -- where the key may still be: the entries at all places before `low` come before it, and those from `high` on after it
  pub record Amid (low high : ℕ) : Type 0 where
    pub most : high ≤ length words
    pub below : (j : ℕ) → j < low → lex_compare (of j) key ≡ Less
    pub above : (j : ℕ) → high ≤ j → j < length words → lex_compare key (of j) ≡ Less

  pub amid-all : Amid 0 (length words)
  amid-all = record { most = omega arith; below = λ j i. absurd (omega arith); above = λ j h i. absurd (omega arith) }

  -- a place whose entry has the key, by whatever way it was come by
  pub found_key : {i : ℕ} → (i < length words) × (of i ≡ key) → Found e s words key (Some i)
  found_key {i} h = record {
    at = λ j e. let k : i ≡ j = cc in rw (← k) h;
    nothing = λ e. cc;
  }

  pub found-at : {i : ℕ} → i < length words → lex_compare key (of i) ≡ Equal → Found e s words key (Some i)
  found-at {i} h q = found_key (h, sym ((lex-equal-iff key (of i)).0 q))

  pub found-nothing : {low high : ℕ} → Amid low high → high ≤ low → Found e s words key None
  found-nothing {low} b h = record {
    at = λ j i. cc;
    nothing = λ i. not_in key (key_at e s) words (λ j k. other j k (dec_lt j low));
  }
    where
      other : (j : ℕ) → j < length words → Dec (j < low) → same key (of j) ≡ false
      other j l (yes m) = greater-not-same key (of j) (lex-turned (of j) key ∙ ap turned (b.below j m))
      other j l (no m) = less-not-same key (of j) (b.above j (omega arith) l)

  module _ (o : Ordered (key_at_most e s) words) {low high : ℕ} (b : Amid low high) {i : ℕ} (h : low ≤ i) (k : i < high) where
    ascends : (j l : ℕ) → j < l → l < length words → leq (of j) (of l) ≡ true
    ascends j l m n = ordered-get (key_at_most e s) words o j l m n

    pub amid-lower : lex_compare key (of i) ≡ Less → Amid low i
    amid-lower q = record { most = omega (arith, b.most); below = b.below; above = λ j m l. after j m l (dec_lt i j) }
      where
        after : (j : ℕ) → i ≤ j → j < length words → Dec (i < j) → lex_compare key (of j) ≡ Less
        after j m l (yes n) = less_then key (of i) (of j) q (ascends i j n l)
        after j m l (no n) = let z : i ≡ j = omega arith in rw (← z) q

    pub amid-upper : lex_compare key (of i) ≡ Greater → Amid (i + 1) high
    amid-upper q = record { most = b.most; below = λ j l. ahead j l (dec_lt j i); above = b.above }
      where
        here : lex_compare (of i) key ≡ Less
        here = lex-turned key (of i) ∙ ap turned q

        ahead : (j : ℕ) → j < i + 1 → Dec (j < i) → lex_compare (of j) key ≡ Less
        ahead j l (yes n) = then_less (of j) (of i) key (ascends j i n (omega (arith, b.most))) here
        ahead j l (no n) = let z : i ≡ j = omega arith in rw (← z) here
