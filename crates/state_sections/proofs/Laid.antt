-- What a section's layout says of its list.
use Prim.Native.Nat.{ℕ, ◌+◌, ◌≤◌, ◌<◌}
use native.Mathlib.Omega.{arith}
use native.Mathlib.Nat.{add-zero}
use native.Mathlib.Decide.{dec_lt}
use mathlib.Core.Path.{◌≡◌, refl, sym, ap, ◌∙◌}
use mathlib.Core.Bool.{Bool, true, false, ◌&&◌}
use mathlib.Core.List.{List, [], ◌∷◌}
use lib.Dec.{leb}
use borrow.Author.Tests.{leb-true}
use Rattle.state.specs.Bytes.{span}
use denote.Enum.Bare.{sameb, same_true}
use Rattle.std.proofs.Common.{rules}
use Rattle.state_sections.specs.contracts.layouts.Asked.{the_type}
use Rattle.state_sections.specs.declared.layouts.Asked.{Asked}
use Rattle.std.proofs.lemmas.Bool.{and_parts as both}
use Rattle.format.specs.Format.{wire, plain, Rule, free, distinct, early, late, from, above, kept, after_key, after_entry, after_all}
use Rattle.format.specs.Keys.{block_key, connector_key}
use Rattle.format.specs.Manifest.{Section, numbered}
use Rattle.format.specs.Least.{least, all_below}
use Rattle.format.proofs.Complete.{all-below}
use Rattle.state_sections.specs.declared.layouts.Layout.{Layout}
use Rattle.std.specs.Prelude.{Some}
use Rattle.state_sections.specs.declared.layouts.Asked.TheVariants.{Never, AfterKey}
use Rattle.state_sections.specs.Layouts.{asked_by, layout_of}
use Rattle.state_sections.specs.Tables.{prior}
use Rattle.state_sections.proofs.Numbers.{numbered_high}

-- an entry is held against the one before it alone
abbrev pub last_only : Rule → Bool
last_only free = true
last_only (distinct r) = false
last_only (early r) = true
last_only (late r) = true

abbrev plain_list : Section → Bool
plain_list e = leb 4 (least e.key) && last_only e.rule

numbered-plain : (n : ℕ) → plain_list (numbered n) ≡ true
unfolding numbered least block_key connector_key
numbered-plain n = go (dec_lt n 13)
  where
    below : all_below (λ i. plain_list (numbered i)) 13 ≡ true
    below = refl

    go : Dec (n < 13) → plain_list (numbered n) ≡ true
    go (yes h) = all-below (λ i. plain_list (numbered i)) 13 n below h
    go (no h) = ap plain_list (numbered_high n (omega (arith, h)))

-- an entry's key has four bytes at least
pub key-least : (n : ℕ) → 4 ≤ least (numbered n).key
key-least n = leb-true _ _ (both (leb 4 (least (numbered n).key)) _ (numbered-plain n)).0

pub last-only : (n : ℕ) → last_only (numbered n).rule ≡ true
last-only n = (both (leb 4 (least (numbered n).key)) _ (numbered-plain n)).1

pub unasked : (u : Rule) (ks : List (List ℕ)) → last_only u ≡ true → after_all u ks ≡ true
unasked free ks h = refl
unasked (distinct r) ks h = let z : ◌≡◌ {A = ℕ} 0 1 = cc in absurd (omega arith)
unasked (early r) ks h = refl
unasked (late r) ks h = refl

keeps : (u : Rule) (k : List ℕ) (ks : List (List ℕ)) → last_only u ≡ true → kept u k ks ≡ k ∷ []
keeps free k ks h = refl
keeps (distinct r) k ks h = let z : ◌≡◌ {A = ℕ} 0 1 = cc in absurd (omega arith)
keeps (early r) k ks h = refl
keeps (late r) k ks h = refl

-- question 9 right after a key and after an entry, from what was answered for both: `b`, where it is asked at all
key-asked : (u : Rule) (k : List ℕ) (ks : List (List ℕ)) {b c : Bool} → ((asked_by u ≡ Never → ⊥) → b ≡ above k ks) → (asked_by u ≡ Never → b ≡ true) → (asked_by u ≡ AfterKey → b ≡ c) → ((asked_by u ≡ AfterKey → ⊥) → c ≡ true) → after_key u k ks ≡ c
key-asked free k ks a n y z = sym (z (λ e. cc))
key-asked (distinct r) k ks a n y z = sym (z (λ e. cc))
key-asked (early r) k ks a n y z = sym (a (λ e. cc)) ∙ y refl
key-asked (late r) k ks a n y z = sym (z (λ e. cc))

entry-asked : (u : Rule) (k : List ℕ) (ks : List (List ℕ)) {b : Bool} → ((asked_by u ≡ Never → ⊥) → b ≡ above k ks) → (asked_by u ≡ Never → b ≡ true) → (asked_by u ≡ AfterKey → b ≡ true) → after_entry u k ks ≡ b
entry-asked free k ks a n y = sym (n refl)
entry-asked (distinct r) k ks a n y = sym (n refl)
entry-asked (early r) k ks a n y = sym (y refl)
entry-asked (late r) k ks a n y = sym (a (λ e. cc))

-- the test whether it is asked after a key
pub asked_on : (a : Asked) → sameb the_type a AfterKey ≡ true → a ≡ AfterKey
asked_on a e = same_true the_type (search rules) a AfterKey e

pub asked_off : (a : Asked) → sameb the_type a AfterKey ≡ false → a ≡ AfterKey → ⊥
asked_off a e q = let z : sameb the_type AfterKey AfterKey ≡ false = ap (λ (x : Asked). sameb the_type x AfterKey) (sym q) ∙ e in cc

skips : (u : Rule) (p : ℕ) → from u p ≡ p + from u 0
skips free p = sym (add-zero p)
skips (distinct wire) p = sym (add-zero p)
skips (distinct plain) p = refl
skips (early wire) p = sym (add-zero p)
skips (early plain) p = refl
skips (late wire) p = sym (add-zero p)
skips (late plain) p = refl

-- of any section whose layout it is
module _ (e : Section) {layout : Layout} (l : layout ≡ layout_of e) where
  asks : layout.asked ≡ asked_by e.rule
  asks = ap (λ (x : Layout). x.asked) l

  module _ (s : List ℕ) (p k : ℕ) (ks : List (List ℕ)) where
    from-skip : span s (from e.rule p) k ≡ span s (p + layout.skip) k
    from-skip = rw (l, skips e.rule p)

    module _ {b : Bool} (a : (layout.asked ≡ Never → ⊥) → b ≡ above (span s (p + layout.skip) k) ks) (n : layout.asked ≡ Never → b ≡ true) where
      pub key-told : {c : Bool} → (layout.asked ≡ AfterKey → b ≡ c) → ((layout.asked ≡ AfterKey → ⊥) → c ≡ true) → after_key e.rule (span s (from e.rule p) k) ks ≡ c
      key-told y z = ap (λ x. after_key e.rule x ks) from-skip ∙ key-asked e.rule _ ks (λ q. a (λ r. q (sym asks ∙ r))) (λ q. n (asks ∙ q)) (λ q. y (asks ∙ q)) (λ q. z (λ r. q (sym asks ∙ r)))

      pub entry-told : (layout.asked ≡ AfterKey → b ≡ true) → after_entry e.rule (span s (from e.rule p) k) ks ≡ b
      entry-told y = ap (λ x. after_entry e.rule x ks) from-skip ∙ entry-asked e.rule _ ks (λ q. a (λ r. q (sym asks ∙ r))) (λ q. n (asks ∙ q)) (λ q. y (asks ∙ q))

    pub key-kept : last_only e.rule ≡ true → kept e.rule (span s (from e.rule p) k) ks ≡ prior (Some (span s (p + layout.skip) k))
    key-kept h = keeps e.rule _ ks h ∙ ap (λ x. x ∷ []) from-skip
