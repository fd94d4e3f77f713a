-- What `mark` and `mark_new` do with what a search for a key has found: marks stand beside the words of a table.
use Prim.Native.Nat.{ℕ, ◌<◌}
use native.Mathlib.Omega.{arith}
use mathlib.Core.Path.{◌≡◌, refl, sym, ap, ◌∙◌}
use mathlib.Core.Bool.{Bool, true, false, not, cond, ◌&&◌, and-false}
use mathlib.Core.List.{List, [], ◌∷◌}
use lib.ListN.{length, get_or, set, length-map, length-set}
use Rattle.std.specs.Prelude.{Option, Some, None}
use Rattle.format.specs.Lists.{is_in}
use Rattle.format.specs.Manifest.{Section}
use Rattle.format.specs.Places.{key_at}
use Rattle.state_index.specs.Words.{Found}
use Rattle.state_index.specs.Sort.{Ordered}
use Rattle.state_index.specs.Find.{key_at_most}
use Rattle.state_layout.specs.Marks.{marks_of}
use Rattle.state_layout.specs.Keys.{keys_of, Ascends, Met, MetNew}
use Rattle.state_layout.proofs.Marked.{get-map, key_in, mark_set, mark-read, marks-other}

pub in_order : (e : Section) (s words : List ℕ) → Ascends e s words → Ordered (key_at_most e s) words
in_order e s words a = a.0

module _ (e : Section) (s words key : List ℕ) where
  abbrev keys : List (List ℕ)
  keys = keys_of e s words

  keys-long : length keys ≡ length words
  keys-long = length-map words (key_at e s)

  -- a place whose entry has the key
  module _ {i : ℕ} (h : i < length words) (k : key_at e s (get_or words i 0) ≡ key) where
    here : get_or keys i [] ≡ key
    here = get-map (key_at e s) words i 0 [] h ∙ k

    there : is_in key keys ≡ true
    there = rw here at (key_in keys i (omega (arith, keys-long)))

    mark-is : (seen : List (List ℕ)) (old : List ℕ) → old ≡ marks_of seen keys → get_or old i 0 ≡ cond (is_in key seen) 1 0
    mark-is seen old o =
        ap (λ (l : List ℕ). get_or l i 0) o ∙ mark-read seen keys i (omega (arith, keys-long)) ∙ ap (λ (l : List ℕ). cond (is_in l seen) 1 0) here

  module _ (a : Ascends e s words) {f : Option ℕ} (r : Found e s words key f) {old : List ℕ} where
    set-is : {i : ℕ} → f ≡ Some i → (seen : List (List ℕ)) → old ≡ marks_of seen keys → set old i 1 ≡ marks_of (key ∷ seen) keys
    set-is {i} g seen o =
        let h = r.at i g in
        ap (λ (l : List ℕ). set l i 1) o ∙ mark_set seen keys key i a.1 (omega (arith, h.0, keys-long)) (here h.0 h.1)

    pub met : {i : ℕ} → f ≡ Some i → Met e s words key (Some i) old (set old i 1)
    met {i} g = record {
      found = rw (← g) r;
      long = length-set old i 1;
      marks = set-is g;
      same = λ j. let z : ◌≡◌ {A = ℕ} 0 1 = cc in absurd (omega arith);
    }

    pub unmet : f ≡ None → Met e s words key None old old
    unmet g = record {
      found = rw (← g) r;
      long = refl;
      marks = λ seen o. o ∙ marks-other seen keys key (r.nothing g);
      same = λ j. refl;
    }

    pub unmet_new : f ≡ None → MetNew e s words key None old old
    unmet_new g = record {
      at = λ i j. let z : ◌≡◌ {A = ℕ} 0 1 = cc in absurd (omega arith);
      long = refl;
      answer = λ seen o. rw (r.nothing g) refl;
      next = λ i j. let z : ◌≡◌ {A = ℕ} 0 1 = cc in absurd (omega arith);
    }

    pub met_new : {i : ℕ} → f ≡ Some i → get_or old i 0 ≡ 0 → MetNew e s words key (Some i) old (set old i 1)
    met_new {i} g z = record {
      at = λ j k. let q : i ≡ j = cc in rw (← q) (r.at i g).0;
      long = length-set old i 1;
      answer = λ seen o. let h = r.at i g in rw (there h.0 h.1) (ap not (sym (unset (is_in key seen) (sym (mark-is h.0 h.1 seen old o) ∙ z))));
      next = λ j k. set-is g;
    }
      where
        unset : (b : Bool) → ◌≡◌ {A = ℕ} (cond b 1 0) 0 → b ≡ false
        unset true q = absurd (omega arith)
        unset false q = refl

    pub met_before : {i : ℕ} → f ≡ Some i → (get_or old i 0 ≡ 0 → ⊥) → MetNew e s words key None old old
    met_before {i} g z = record {
      at = λ j k. let q : ◌≡◌ {A = ℕ} 0 1 = cc in absurd (omega arith);
      long = refl;
      answer = λ seen o. let h = r.at i g in sym (before (is_in key seen) (λ q. z (mark-is h.0 h.1 seen old o ∙ q)));
      next = λ j k. let q : ◌≡◌ {A = ℕ} 0 1 = cc in absurd (omega arith);
    }
      where
        before : (b : Bool) → (◌≡◌ {A = ℕ} (cond b 1 0) 0 → ⊥) → (is_in key keys && not b) ≡ false
        before true q = and-false (is_in key keys)
        before false q = absurd (q refl)
