-- What the loop over entries that ascend answers.
use Prim.Native.Nat.{ℕ, ◌+◌, ◌-◌, ◌≤◌, ◌<◌}
use mathlib.Core.Path.{◌≡◌, refl, sym, ap, ◌∙◌}
use mathlib.Core.Bool.{Bool, true, false}
use mathlib.Core.List.{List, []}
use Rattle.std.specs.Prelude.{Ok, Err, Option, Some}
use Rattle.state.specs.Bytes.{span}
use Rattle.state.specs.Outcome.{Stepped, NumberRead, field_of, step_of_field, refuses}
use Rattle.state.specs.declared.Refusal.{Refusal}
use Rattle.state_wire.specs.Fields.{read_count}
use Rattle.format.specs.Format.{Rule, free, distinct, early, late, from, above, after_key, after_entry, scan}
use Rattle.format.specs.Manifest.{Section, counted}
use Rattle.format.proofs.Entries.{Going, list-stop, going_start, going_end, going-rest-stop, going-low, going_on}
use Rattle.state_sections.specs.declared.layouts.Asked.TheVariants.{AfterEntry}
use Rattle.state_sections.specs.declared.layouts.Layout.{Layout}
use Rattle.state_sections.specs.Layouts.{asked_by, layout_of}
use Rattle.state_sections.specs.Tables.{prior}
use Rattle.state_sections.proofs.Filling.{going-left}
use Rattle.state_sections.proofs.Laid.{last_only, unasked, key-told, entry-told, key-kept}

ascends : (u : Rule) → asked_by u ≡ AfterEntry → last_only u ≡ true
ascends free h = cc
ascends (distinct r) h = cc
ascends (early r) h = refl
ascends (late r) h = refl

module _ (limit : ℕ) (e : Section) {layout : Layout} (l : layout ≡ layout_of e) (a : layout.asked ≡ AfterEntry) where
  only : last_only e.rule ≡ true
  only = ascends e.rule (sym (ap (λ (x : Layout). x.asked) l) ∙ a)

  module _ (s : List ℕ) (at : ℕ) {g : NumberRead} (eg : g ≡ field_of (read_count 4 layout.least s at)) where
    count-read : g ≡ field_of (read_count 4 e.least s at)
    count-read = eg ∙ ap (λ (x : Layout). field_of (read_count 4 x.least s at)) l

    pub ascending-stop : {x : Stepped} {d : Refusal ℕ} → g ≡ Err d → x ≡ step_of_field g → x ≡ scan limit (counted e) s at
    ascending-stop h i = list-stop limit s at 4 e.least e.rule e.key e.rest count-read h i

    pub ascending-start : {n m left : ℕ} → g ≡ Ok (n, m) → n ≡ left → Going (scan limit (counted e) s at) limit e.rule e.key e.rest s left m []
    ascending-start h z = going-left (going_start limit s at 4 e.least e.rule e.key e.rest count-read h) z

  module _ {whole : Stepped} {s : List ℕ} {left p : ℕ} (last : Option (List ℕ)) (g : Going whole limit e.rule e.key e.rest s left p (prior last)) where
    pub ascending-end : left ≤ 0 → Ok p ≡ whole
    ascending-end h = going_end g h (unasked e.rule _ only)

    module _ (h : 0 < left) {x : Stepped} {k : ℕ} (ek : x ≡ scan limit e.key s p) (ik : x ≡ Ok k) {y : Stepped} (er : y ≡ scan limit e.rest s k) where
      unasked-yet : after_key e.rule (span s (from e.rule p) k) (prior last) ≡ true
      unasked-yet = key-told e l s p k (prior last) {b = above (span s (p + layout.skip) k) (prior last)} (λ q. refl) (λ q. cc (q, a)) (λ q. cc (q, a)) (λ q. refl)

      pub ascending-rest-stop : {d : Refusal ℕ} → y ≡ Err d → y ≡ whole
      ascending-rest-stop i = going-rest-stop g h ek ik unasked-yet er i

      module _ {z : ℕ} (ir : y ≡ Ok z) {b : Bool} (eb : b ≡ above (span s (p + layout.skip) k) (prior last)) where
        at-entry : {c : Bool} → b ≡ c → after_entry e.rule (span s (from e.rule p) k) (prior last) ≡ c
        at-entry t = entry-told e l s p k (prior last) (λ q. eb) (λ q. cc (q, a)) (λ q. cc (q, a)) ∙ t

        pub ascending-low : b ≡ false → refuses 9 z ≡ whole
        ascending-low t = going-low g h ek ik unasked-yet er ir (at-entry t)

        pub ascending-on : {left' : ℕ} → b ≡ true → left - 1 ≡ left' → Going whole limit e.rule e.key e.rest s left' z (prior (Some (span s (p + layout.skip) k)))
        ascending-on t j = going-left (going_on g h ek ik unasked-yet er ir (at-entry t) (key-kept e l s p k (prior last) only)) j
