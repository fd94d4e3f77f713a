-- What the loop over a section's entries keeps, and what it answers.
use Prim.Native.Nat.{ℕ, ◌+◌, ◌-◌, ◌≤◌, ◌<◌}
use native.Mathlib.Omega.{arith}
use mathlib.Core.Path.{◌≡◌, refl, sym, ap, ◌∙◌}
use mathlib.Core.Bool.{Bool, true, false}
use mathlib.Core.List.{List}
use lib.ListN.{length, set}
use borrow.Rule.Slice.PartMut.{mid_of, mid_len, put_mid, same_len_mid}
use Rattle.std.proofs.lemmas.Slice.{take-put_mid_below}
use Rattle.std.specs.Prelude.{Ok, Err, Option, Some, None}
use Rattle.state.specs.declared.Refusal.{Refusal}
use Rattle.state.specs.Bytes.{span}
use Rattle.state.specs.Outcome.{field_of, step_of_field, Stepped, NumberRead, refuses}
use Rattle.state_wire.specs.Fields.{read_count}
use Rattle.format.specs.Format.{above, after_key, scan, from}
use Rattle.format.specs.Manifest.{numbered, counted, entry}
use Rattle.format.specs.Places.{count_at, starts}
use Rattle.format.proofs.Bounds.{next-within}
use Rattle.format.proofs.Entries.{Going, counted-fits, list-stop, going_start, going_end, going-key-stop, going-key-low, going-rest-stop, going-low, going_on}
use Rattle.state_sections.specs.declared.layouts.Layout.{Layout}
use Rattle.state_sections.specs.Layouts.{layout_of}
use Rattle.state_sections.specs.declared.layouts.Asked.TheVariants.{Never, AfterKey}
use Rattle.state_sections.specs.Tables.{prior, Space, Lists}
use Rattle.state_sections.proofs.Filling.{Filling, going-left, filling-left, filling-start, filling-on, filling-done, lists-stop, entry-end}
use Rattle.state_sections.proofs.Laid.{key-least, last-only, unasked, key-told, entry-told, key-kept}

-- of section n, which starts at a position: so many entries are left, from p on; `last` is the key before, if there is one; the words
-- up to w are filled
pub record Walking (limit n : ℕ) (layout : Layout) (s : List ℕ) (at left p : ℕ) (last : Option (List ℕ)) (w : ℕ) (words : List ℕ) : Type 0 where
  pub laid : layout ≡ layout_of (numbered n)
  pub going : Going (scan limit (counted (numbered n)) s at) limit (numbered n).rule (numbered n).key (numbered n).rest s left p (prior last)
  pub filling : Filling limit (entry (numbered n)) s (count_at s at) (at + 4) left p w words

module _ (limit n : ℕ) {layout : Layout} (s : List ℕ) (at : ℕ) (l : layout ≡ layout_of (numbered n)) {g : NumberRead} (e : g ≡ field_of (read_count 4 layout.least s at)) where
  count-read : g ≡ field_of (read_count 4 (numbered n).least s at)
  count-read = e ∙ ap (λ (x : Layout). field_of (read_count 4 x.least s at)) l

  pub walk-stop : {x : Stepped} {ps words : List ℕ} {d : Refusal ℕ} → g ≡ Err d → x ≡ step_of_field g → Lists x (scan limit (counted (numbered n)) s at) ps words
  walk-stop h i = lists-stop (list-stop limit s at 4 (numbered n).least (numbered n).rule (numbered n).key (numbered n).rest count-read h i) (i ∙ ap step_of_field h)

  pub walk_start : {words : List ℕ} → {c m left : ℕ} → g ≡ Ok (c, m) → c ≡ left → Walking limit n layout s at left m None 0 words
  walk_start {words} {c} {m} h z =
      let k = counted-fits s at 4 (numbered n).least count-read h in
      record {
        laid = l;
        going = going-left (going_start limit s at 4 (numbered n).least (numbered n).rule (numbered n).key (numbered n).rest count-read h) z;
        filling = filling-left (rw (k.0, k.1) (filling-start limit (entry (numbered n)) s (count_at s at) (at + 4) words)) z;
      }

module _ {limit n : ℕ} {layout : Layout} {s : List ℕ} {at left p : ℕ} {last : Option (List ℕ)} {w : ℕ} {words : List ℕ} (g : Walking limit n layout s at left p last w words) where
  pub walk_end : left ≤ 0 → Lists (Ok p) (scan limit (counted (numbered n)) s at) (starts limit (entry (numbered n)) s (count_at s at) (at + 4)) words
  walk_end h = filling-done g.filling h (going_end g.going h (unasked _ _ (last-only n)))

  module _ (h : 0 < left) {x : Stepped} (ek : x ≡ scan limit (numbered n).key s p) where
    pub walk-key-stop : {d : Refusal ℕ} → x ≡ Err d → x ≡ scan limit (counted (numbered n)) s at
    walk-key-stop i = going-key-stop g.going h ek i

    module _ {k : ℕ} (ik : x ≡ Ok k) where
      -- a key has four bytes at least
      pub walk-key : (p + 4 ≤ k) × (k ≤ length s)
      walk-key = let b = next-within limit s (numbered n).key p g.going.here ek ik in (omega (arith, b.0, key-least n), b.1)

      module _ {first : List ℕ} (q : Space s first at) (lq : length words ≡ length first) where
        -- there is a word for it
        pub walk-word : w < length words
        walk-word = omega (arith, q.there, walk-key, g.filling.used, lq)

        -- and those from it on are scratch for its rest
        pub walk-space : Space s (mid_of w (length words - w) words) k
        walk-space = record { short = q.short; here = walk-key.1; there = omega (arith, q.there, walk-key.0, g.filling.used, lq, walk-word, mid_len w (length words) words (omega arith)) }

      module _ {b : Bool} (ba : (layout.asked ≡ Never → ⊥) → b ≡ above (span s (p + layout.skip) k) (prior last)) (bn : layout.asked ≡ Never → b ≡ true) where
        pub walk-key-low : b ≡ false → layout.asked ≡ AfterKey → refuses 9 k ≡ scan limit (counted (numbered n)) s at
        walk-key-low t a = going-key-low g.going h ek ik (key-told (numbered n) g.laid s p k _ ba bn (λ q. t) (λ q. absurd (q a)))

        -- it goes on where the order was asked after the key and is right, or is not asked there
        module _ (tb : layout.asked ≡ AfterKey → b ≡ true) {y : Stepped} (er : y ≡ scan limit (numbered n).rest s k) where
          passed : after_key (numbered n).rule (span s (from (numbered n).rule p) k) (prior last) ≡ true
          passed = key-told (numbered n) g.laid s p k _ ba bn tb (λ q. refl)

          pub walk-rest-stop : {d : Refusal ℕ} → y ≡ Err d → y ≡ scan limit (counted (numbered n)) s at
          walk-rest-stop i = going-rest-stop g.going h ek ik passed er i

          module _ {e : ℕ} (ir : y ≡ Ok e) where
            pub walk-low : b ≡ false → refuses 9 e ≡ scan limit (counted (numbered n)) s at
            walk-low t = going-low g.going h ek ik passed er ir (entry-told (numbered n) g.laid s p k _ ba bn tb ∙ t)

            pub walk-on : b ≡ true → w < length words → (part : List ℕ) → length part ≡ length (mid_of w (length words - w) words) → {key : List ℕ} → key ≡ span s (p + layout.skip) k → {v left' : ℕ} → v ≡ p → left - 1 ≡ left' → Walking limit n layout s at left' e (Some key) (w + 1) (set (put_mid w (length words - w) words part) w v)
            walk-on t i part m j q z = record {
              laid = g.laid;
              going = going-left (going_on g.going h ek ik passed er ir (entry-told (numbered n) g.laid s p k _ ba bn tb ∙ t) (key-kept (numbered n) g.laid s p k _ (last-only n) ∙ ap (λ (x : List ℕ). prior (Some x)) (sym j))) z;
              filling = filling-left (filling-on g.filling h _ (take-put_mid_below w (length words - w) words part w (omega arith) (omega arith)) (omega (arith, same_len_mid w (length words - w) words part m)) (entry-end limit (numbered n).key (numbered n).rest s p ek ik er ir) (omega (arith, walk-key.0, (next-within limit s (numbered n).rest k walk-key.1 er ir).0)) q) z;
            }
