-- The keys of the sections, and where they end.
use Prim.Native.Nat.{ℕ, zero, suc, ◌+◌, ◌-◌, ◌≤◌, ◌<◌, min}
use native.Mathlib.Omega.{arith}
use native.Mathlib.Decide.{dec_lt, ℕ_discrete}
use mathlib.Core.Path.{◌≡◌, refl, ap, ◌∙◌}
use mathlib.Core.List.{List, [], ◌∷◌}
use lib.ListN.{length, get_or, drop, get_or-eq_default}
use lib.Seq.{get_or-drop}
use Rattle.state.specs.Bytes.{span}
use Rattle.format.specs.Format.{Fmt, done, text, ◌then◌, from}
use Rattle.format.specs.Keys.{block_key, connector_key}
use Rattle.format.specs.Manifest.{lists, input_definitions, numbered}
use Rattle.format.specs.Places.{past, key_at}
use Rattle.format.specs.Values.{value_at}
use Rattle.state_index.specs.Keys.{text_at}

-- ---- block keys and connector keys
abbrev forms : List Fmt
forms = text ∷ (text then text) ∷ []

block-is : (s : List ℕ) (at : ℕ) → past (get_or forms (get_or s at 0) done) s (min (at + 1) (length s)) ≡ past block_key s at
unfolding past block_key
block-is s at = refl

then_is : (a b : Fmt) (s : List ℕ) (at : ℕ) → past b s (past a s at) ≡ past (a then b) s at
unfolding past
then_is a b s at = refl

done-is : (s : List ℕ) (at : ℕ) → at ≡ past done s at
unfolding past
done-is s at = refl

module _ (s : List ℕ) (at : ℕ) {t first : ℕ} (et : t ≡ get_or s at 0) (ef : first ≡ min (at + 1) (length s)) where
  by-tag : {f : Fmt} → get_or forms t done ≡ f → past f s first ≡ past block_key s at
  by-tag e = rw (ef, ← e, et) (block-is s at)

  pub block-authored : t ≡ 0 → {e : ℕ} → e ≡ past text s first → e ≡ past block_key s at
  block-authored z h = h ∙ by-tag (rw z)

  pub block-through : t ≡ 1 → {m e : ℕ} → m ≡ past text s first → e ≡ past text s m → e ≡ past block_key s at
  block-through z i h = h ∙ ap (past text s) i ∙ then_is text text s first ∙ by-tag (rw z)

  pub block-other : (t ≡ 0 → ⊥) → (t ≡ 1 → ⊥) → first ≡ past block_key s at
  block-other y z = done-is s first ∙ by-tag (get_or-eq_default {A = Fmt} forms done {n = t} (omega arith))

-- ---- the sections by their numbers
-- one of three or four numbers, where the others are refuted
pub key-block : {n : ℕ} → ((n ≡ 3 → ⊥) → (n ≡ 6 → ⊥) → (n ≡ 9 → ⊥) → ⊥) → (numbered n).key ≡ block_key
unfolding numbered
key-block {n} h = go (ℕ_discrete n 3) (ℕ_discrete n 6) (ℕ_discrete n 9)
  where
    go : Dec (n ≡ 3) → Dec (n ≡ 6) → Dec (n ≡ 9) → (numbered n).key ≡ block_key
    go (yes e) b c = rw e
    go (no a) (yes e) c = rw e
    go (no a) (no b) (yes e) = rw e
    go (no a) (no b) (no c) = absurd (h a b c)

pub key-connector : {n : ℕ} → ((n ≡ 4 → ⊥) → (n ≡ 7 → ⊥) → (n ≡ 8 → ⊥) → (n ≡ 10 → ⊥) → ⊥) → (numbered n).key ≡ connector_key
unfolding numbered
key-connector {n} h = go (ℕ_discrete n 4) (ℕ_discrete n 7) (ℕ_discrete n 8) (ℕ_discrete n 10)
  where
    go : Dec (n ≡ 4) → Dec (n ≡ 7) → Dec (n ≡ 8) → Dec (n ≡ 10) → (numbered n).key ≡ connector_key
    go (yes e) b c d = rw e
    go (no a) (yes e) c d = rw e
    go (no a) (no b) (yes e) d = rw e
    go (no a) (no b) (no c) (yes e) = rw e
    go (no a) (no b) (no c) (no d) = absurd (h a b c d)

pub key-pair : {n : ℕ} → n ≡ 5 → (numbered n).key ≡ connector_key then connector_key
unfolding numbered
key-pair e = rw e

-- with a text as key
high : (m : ℕ) → (get_or (drop 9 lists) m input_definitions).key ≡ text
high zero = refl
high (suc zero) = refl
high (suc (suc m)) = refl

pub key-text : {n : ℕ} → (2 < n → n ≤ 10 → ⊥) → (numbered n).key ≡ text
unfolding numbered
key-text {n} h = go (dec_lt 2 n)
  where
    go : Dec (2 < n) → (numbered n).key ≡ text
    go (yes l) = let e : n - 2 ≡ 9 + (n - 11) = omega (arith, h l) in rw (e, ← get_or-drop 9 lists (n - 11) input_definitions) (high (n - 11))
    go (no m) = let e : n - 2 ≡ 0 = omega arith in rw e

-- where a key ends
module _ (n : ℕ) (s : List ℕ) (at : ℕ) where
  pub key-past : {f : Fmt} → (numbered n).key ≡ f → {e : ℕ} → e ≡ past f s at → e ≡ past (numbered n).key s at
  key-past e h = h ∙ rw e

  pub pair-past : {m e : ℕ} → m ≡ past connector_key s at → e ≡ past connector_key s m → e ≡ past (connector_key then connector_key) s at
  pair-past i h = h ∙ ap (past connector_key s) i ∙ then_is connector_key connector_key s at

-- ---- the bytes by which keys are ranked
last : (m : ℕ) → get_or (drop 10 lists) m input_definitions ≡ input_definitions
last zero = refl
last (suc m) = refl

in-full : {at : ℕ} (m : ℕ) → m ≤ 8 → from (get_or lists (suc m) input_definitions).rule at ≡ at
in-full zero h = refl
in-full (suc zero) h = refl
in-full (suc (suc zero)) h = refl
in-full (suc (suc (suc zero))) h = refl
in-full (suc (suc (suc (suc zero)))) h = refl
in-full (suc (suc (suc (suc (suc zero))))) h = refl
in-full (suc (suc (suc (suc (suc (suc zero)))))) h = refl
in-full (suc (suc (suc (suc (suc (suc (suc zero))))))) h = refl
in-full (suc (suc (suc (suc (suc (suc (suc (suc zero)))))))) h = refl
in-full (suc (suc (suc (suc (suc (suc (suc (suc (suc m))))))))) h = absurd (omega arith)

module _ (n : ℕ) (s : List ℕ) (at : ℕ) where
  pub text-key : (2 < n → n ≤ 11 → ⊥) → text_at s at ≡ key_at (numbered n) s at
  unfolding numbered key_at value_at
  text-key h = go (dec_lt 2 n)
    where
      go : Dec (2 < n) → text_at s at ≡ key_at (numbered n) s at
      go (yes l) = let e : n - 2 ≡ 10 + (n - 12) = omega (arith, h l) in rw (e, ← get_or-drop 10 lists (n - 12) input_definitions, last (n - 12))
      go (no m) = let e : n - 2 ≡ 0 = omega arith in rw e

  pub full-key : 2 < n → n ≤ 11 → {e : ℕ} → e ≡ past (numbered n).key s at → span s at e ≡ key_at (numbered n) s at
  unfolding numbered key_at
  full-key l h i = let e : n - 2 ≡ suc (n - 3) = omega arith in rw (i, e, in-full {at = at} (n - 3) (omega arith))
