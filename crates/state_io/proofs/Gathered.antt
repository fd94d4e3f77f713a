-- The external connectors: their keys met, and where their paths stand put into the room.
use Prim.Native.Nat.{ℕ, suc, ◌+◌, ◌≤◌, ◌<◌}
use native.Mathlib.Omega.{arith}
use mathlib.Core.Path.{◌≡◌, refl, sym, ap, ◌∙◌}
use mathlib.Core.Logic.{◌⊎◌, inl, inr}
use mathlib.Core.Bool.{Bool, true, false, cond, ◌||◌}
use mathlib.Core.List.{List, [], ◌∷◌, ◌++◌, map, append_assoc, append-nil, map-append}
use lib.ListN.{length, get_or, set, take, replicate, length-map, length-set}
use Rattle.std.specs.Prelude.{Option}
use Rattle.std.proofs.lemmas.List.{take_more, take_more_set}
use Rattle.format.specs.Lists.{same, is_in}
use Rattle.format.specs.Keys.{connector_key}
use Rattle.format.specs.Manifest.{Section, connectors, external_inputs, numbered}
use Rattle.format.specs.Places.{past, key_at}
use Rattle.questions.specs.Sets.{keep}
use Rattle.state_index.specs.declared.SortKey.TheVariants.{Text}
use Rattle.state_index.specs.Keys.{at_most}
use Rattle.state_index.specs.Sort.{Sorts}
use Rattle.state_index.proofs.Sorting.{or_swap}
use Rattle.state_layout.specs.Marks.{is_set, marks_of}
use Rattle.state_layout.specs.Keys.{keys_of, Met}
use Rattle.state_layout.proofs.Marked.{is-set, marks-none, set-where}
use Rattle.state_io.specs.Paths.{chosen, external_paths}

-- ---- the keys that were met, one more at a time
module _ (k : List ℕ) where
  in-last : (q : List ℕ) (seen : List (List ℕ)) → is_in q (k ∷ seen) ≡ is_in q (seen ++ k ∷ [])
  unfolding is_in
  in-last q [] = refl
  in-last q (x ∷ seen) = or_swap (same q k) (same q x) (is_in q seen) ∙ ap (λ (b : Bool). same q x || b) (in-last q seen)

  marks-last : (seen keys : List (List ℕ)) → marks_of (k ∷ seen) keys ≡ marks_of (seen ++ k ∷ []) keys
  unfolding marks_of
  marks-last seen [] = refl
  marks-last seen (x ∷ keys) = rw (in-last x seen, marks-last seen keys)

keys-more : (e : Section) (s words : List ℕ) (i : ℕ) → i < length words
    → keys_of e s (take (i + 1) words) ≡ keys_of e s (take i words) ++ key_at e s (get_or words i 0) ∷ []
keys-more e s words i h = rw (take_more words i 0 h) (map-append (key_at e s) (take i words) (get_or words i 0 ∷ []))

module _ (s words inputs : List ℕ) where
  abbrev keys : List (List ℕ)
  keys = keys_of connectors s words

  -- marks of the keys that the first i inputs name
  abbrev pub Marking : List ℕ → ℕ → Type 0
  Marking marks i = marks ≡ marks_of (keys_of external_inputs s (take i inputs)) keys

  pub marking-start : {marks : List ℕ} → marks ≡ replicate (length words) 0 → Marking marks 0
  marking-start e = e ∙ ap (λ (n : ℕ). replicate n 0) (sym (length-map words (key_at connectors s))) ∙ sym (marks-none keys)

  pub marking-next : {old : List ℕ} {i : ℕ} → Marking old i → i < length inputs → {p : ℕ} → p ≡ get_or inputs i 0
      → {key : List ℕ} → key ≡ key_at (numbered 10) s p → {f : Option ℕ} {new : List ℕ} → Met (numbered 4) s words key f old new → Marking new (i + 1)
  unfolding numbered
  marking-next {old} {i} m h {p} ep {key} ek {f} {new} met =
      met.marks (keys_of external_inputs s (take i inputs)) m
      ∙ marks-last key (keys_of external_inputs s (take i inputs)) keys
      ∙ rw (ek, ep) (ap (λ (l : List (List ℕ)). marks_of l keys) (sym (keys-more external_inputs s inputs i h)))

-- ---- those that are marked
chosen-kept : (key : ℕ → List ℕ) (seen : List (List ℕ)) (ps : List ℕ) → chosen (marks_of seen (map key ps)) ps ≡ keep (λ p. is_in (key p) seen) ps
unfolding chosen marks_of keep
chosen-kept key seen [] = refl
chosen-kept key seen (p ∷ ps) = rw (is-set (is_in (key p) seen), chosen-kept key seen ps)

-- the sorted paths are those of the connectors that inputs name
pub gathered : (s words inputs : List ℕ) {marks room paths : List ℕ} → marks ≡ marks_of (keys_of external_inputs s inputs) (keys_of connectors s words)
    → room ≡ map (past connector_key s) (chosen marks words) → Sorts (at_most Text s) room paths → Sorts (at_most Text s) (external_paths s words inputs) paths
unfolding external_paths
gathered s words inputs m e h = rw (← chosen-kept (key_at connectors s) (keys_of external_inputs s inputs) words, ← m, ← e) h

chosen-few : (marks ps : List ℕ) → length (chosen marks ps) ≤ length marks
unfolding chosen
chosen-few [] ps = omega arith
chosen-few (m ∷ marks) [] = omega arith
chosen-few (m ∷ marks) (p ∷ ps) = go (is_set m) (chosen-few marks ps)
  where
    go : (b : Bool) → length (chosen marks ps) ≤ length marks → length (cond b (p ∷ chosen marks ps) (chosen marks ps)) ≤ suc (length marks)
    go true h = omega arith
    go false h = omega arith

-- there is a mark for each path
pub marks_enough : (f : ℕ → ℕ) (marks words : List ℕ) {paths : List ℕ} → paths ≡ map f (chosen marks words) → length paths ≤ length marks
marks_enough f marks words e = omega (arith, ap length e, length-map (chosen marks words) f, chosen-few marks words)

-- a path starts within the bytes
pub path-within : (s : List ℕ) (p : ℕ) {x : ℕ} → x ≡ past connector_key s p → x ≤ length s
unfolding past connector_key
path-within s p e = omega arith

none_left : (ms ps : List ℕ) → (ps ≡ []) ⊎ (ms ≡ []) → chosen ms ps ≡ []
unfolding chosen
none_left [] ps e = refl
none_left (m ∷ ms) ps (inl e) = rw e
none_left (m ∷ ms) ps (inr e) = cc

-- those put, before those to come
pub record Putting (s marks words ps ms paths : List ℕ) (count : ℕ) : Type 0 where
  pub room : count + length ps ≤ length paths
  pub is : take count paths ++ map (past connector_key s) (chosen ms ps) ≡ map (past connector_key s) (chosen marks words)

module _ {s marks words paths : List ℕ} {count : ℕ} (ps ms : List ℕ) where
  module _ {p b : ℕ} {ps' ms' : List ℕ} (m : Putting s marks words ps' ms' paths count) (next : (ps' ≡ p ∷ ps) × (ms' ≡ b ∷ ms)) where
    here : Putting s marks words (p ∷ ps) (b ∷ ms) paths count
    here = rw (next.0, next.1) at m

    pub putting-there : count < length paths
    putting-there = omega (arith, here.room)

    pub putting-skip : b ≡ 0 → Putting s marks words ps ms paths count
    unfolding chosen is_set
    putting-skip z = record { room = omega (arith, here.room); is = rw z at here.is }

    pub putting-next : (b ≡ 0 → ⊥) → {x : ℕ} → x ≡ past connector_key s p → Putting s marks words ps ms (set paths count x) (count + 1)
    unfolding chosen
    putting-next n {x} e = record {
      room = omega (arith, here.room, length-set paths count x);
      is =
          rw (take_more_set paths count x putting-there, append_assoc (take count paths) (x ∷ []) (map (past connector_key s) (chosen ms ps)), e)
          (rw (set-where b n) at here.is);
    }

  pub putting-end : (ps ≡ []) ⊎ (ms ≡ []) → Putting s marks words ps ms paths count → take count paths ≡ map (past connector_key s) (chosen marks words)
  putting-end e m = sym (append-nil (take count paths)) ∙ rw (none_left ms ps e) at m.is
