-- The members of a class: their texts are read one after another, and then asked whether they are all different.
use Prim.Native.Nat.{ℕ, zero, suc, ◌+◌, ◌≤◌}
use mathlib.Core.Path.{◌≡◌, refl, sym, ap, ◌∙◌}
use mathlib.Core.Bool.{Bool, true, false}
use mathlib.Core.List.{List, [], ◌∷◌, ◌++◌, map, append-nil}
use native.Mathlib.Omega.{arith}
use lib.ListN.{length, take, drop}
use lib.Seq.{append_snoc, length-take-le, take_at, take-length}
use Rattle.state.specs.declared.Refusal.{Refusal}
use Rattle.std.specs.Prelude.{Ok, Err}
use Rattle.state.specs.Bytes.{span}
use Rattle.state.proofs.Outcome.{onward, asked, step-ask, step-yields}
use Rattle.format.specs.Lists.{all_different}
use Rattle.format.specs.Format.{plain, free, distinct, text, done, ◌then◌, scan, scan_entries}
use Rattle.format.specs.Places.{end_at, starts}
use Rattle.format.proofs.Steps.{done-step}
use Rattle.state_sections.proofs.Filling.{entry-end}
use Rattle.format.proofs.Entries.{scan-entries, forgets, counted-fits, going_start}
use Rattle.format.specs.Manifest.{members}
use Rattle.state.specs.Outcome.{field_of, Stepped, NumberRead, refuses}
use Rattle.state_wire.specs.Fields.{read_count}
use Rattle.state_sections.specs.Tables.{Lists, Space}
use Rattle.format.proofs.Places.{starts-length}
use Rattle.format.specs.Values.{value_at}
use Rattle.format.proofs.Values.{value-got}
use Rattle.state_index.specs.Keys.{text_at}

module _ (limit : ℕ) (s : List ℕ) where
  -- a text that was read is the one that stands there
  text-there : (at m : ℕ) → scan limit text s at ≡ Ok m → span s (at + 4) m ≡ text_at s at
  unfolding scan value_at
  text-there at m e = ap (span s (at + 4)) (sym (step-yields (value-got limit s text at) (sym e) refl).2.0)

  entry-there : (at m : ℕ) → scan limit text s at ≡ Ok m → end_at limit (text then done) s at ≡ m
  entry-there at m e = sym (entry-end limit text done s at refl e (done-step limit s m) refl)

  -- what is asked of n members from a position on, after the texts ks
  unfoldable pub asks : (n at : ℕ) → List (List ℕ) → Stepped
  asks n at ks = onward (scan_entries limit free text done s n at []) (λ z. asked (all_different (ks ++ map (text_at s) (starts limit (text then done) s n at))) 8 z (Ok z))

  one_more : (n at m : ℕ) (ks : List (List ℕ)) → scan limit text s at ≡ Ok m → asks n m (ks ++ (span s (at + 4) m ∷ [])) ≡ asks (suc n) at ks
  unfolding asks starts
  one_more n at m ks e =
      ap (λ (l : List (List ℕ)). onward (scan_entries limit free text done s n m []) (λ z. asked (all_different l) 8 z (Ok z))) (append_snoc ks (span s (at + 4) m) _)
      ∙ rw (text-there at m e, entry-there at m e, scan-entries limit free text done s n at [], e, ← done-step limit s m, forgets limit text done s n m (span s at m ∷ []))

  none_more : (n at : ℕ) (d : Refusal ℕ) (ks : List (List ℕ)) → scan limit text s at ≡ Err d → Err d ≡ asks (suc n) at ks
  unfolding asks
  none_more n at d ks e = rw (scan-entries limit free text done s n at [], e)

  -- questions 3 to 5 of each, then question 8 of all
  pub members-asked : (n at : ℕ) (ks : List (List ℕ)) → scan_entries limit (distinct plain) text done s n at ks ≡ asks n at ks
  unfolding asks starts scan_entries
  members-asked zero at ks = step-ask (all_different ks) 8 at _ ∙ ap (λ (l : List (List ℕ)). asked (all_different l) 8 at (Ok at)) (sym (append-nil ks))
  members-asked (suc n) at ks = scan-entries limit (distinct plain) text done s n at ks ∙ go (scan limit text s at) refl (members-asked n)
    where
      go : (x : Stepped) → scan limit text s at ≡ x → ((m : ℕ) (js : List (List ℕ)) → scan_entries limit (distinct plain) text done s n m js ≡ asks n m js)
          → onward x (λ m. onward (scan limit done s m) (λ e. scan_entries limit (distinct plain) text done s n e (ks ++ (span s (at + 4) m ∷ [])))) ≡ asks (suc n) at ks
      go (Ok m) e i = rw (← done-step limit s m) (i m (ks ++ (span s (at + 4) m ∷ [])) ∙ one_more n at m ks e)
      go (Err d) e i = none_more n at d ks e

-- what `read_members` answers, from what the readers of the count and of the texts and the test of the texts answered
module _ (s : List ℕ) (at : ℕ) {g : NumberRead} {n m : ℕ} (eg : g ≡ field_of (read_count 4 4 s at)) (ig : g ≡ Ok (n, m)) {words : List ℕ} (q : Space s words at) where
  -- there are two words for each
  pub members-room : (n + n ≤ length words) × (m ≤ length s)
  members-room = let k = counted-fits s at 4 4 eg ig in (omega (arith, k.1, k.2, k.3, q.there), k.2)

  pub members-taken : length (take n words) ≡ n
  members-taken = length-take-le n words (omega (arith, members-room))

  module _ (limit : ℕ) {r : Stepped} {names : List ℕ} (f : Lists r (scan_entries limit free text done s (length (take n words)) m []) (starts limit (text then done) s (length (take n words)) m) names) where
    whole : scan limit members s at ≡ onward r (λ z. asked (all_different (map (text_at s) (starts limit (text then done) s (length (take n words)) m))) 8 z (Ok z))
    unfolding members asks
    whole = (going_start limit s at 4 4 (distinct plain) text done eg ig).is ∙ members-asked limit s n m [] ∙ ap (λ (k : ℕ). asks limit s k m []) (sym members-taken) ∙ rw f.is

    pub members-stop : {d : Refusal ℕ} → r ≡ Err d → r ≡ scan limit members s at
    members-stop h = h ∙ sym (whole ∙ rw h)

    module _ {e : ℕ} (h : r ≡ Ok e) (l : length names ≡ length (take n words)) {b : Bool} (d : b ≡ all_different (map (text_at s) (take n (names ++ drop n words)))) where
      table : take n (names ++ drop n words) ≡ starts limit (text then done) s (length (take n words)) m
      table =
          take_at names (drop n words) n (l ∙ members-taken) ∙ sym (take-length names)
          ∙ ap (λ (x : ℕ). take x names) (l ∙ sym (starts-length limit (text then done) s (length (take n words)) m)) ∙ f.front e h

      pub members-different : b ≡ true → Ok e ≡ scan limit members s at
      members-different t = sym (whole ∙ rw (h, ← table, ← d, t))

      pub members-same : b ≡ false → refuses 8 e ≡ scan limit members s at
      members-same t = sym (whole ∙ rw (h, ← table, ← d, t))
