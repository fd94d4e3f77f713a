-- The slots of texts.
use Prim.Native.Nat.{ℕ, ◌/◌, ◌<◌}
use native.Mathlib.Nat.{mod-lt}
use mathlib.Core.Path.{◌≡◌}
use mathlib.Core.List.{List}
use Rattle.state_index.specs.Keys.{text_at}
use Rattle.state_index.specs.Sift.{mark, slot_at}

pub slot-below : (s : List ℕ) (m p : ℕ) → 0 < m → slot_at s m p < m
unfolding slot_at
slot-below s m p h = mod-lt (mark (text_at s p) / 16777216) h

pub slots-shared : (s : List ℕ) (m p q : ℕ) → text_at s p ≡ text_at s q → slot_at s m p ≡ slot_at s m q
unfolding slot_at
slots-shared s m p q e = rw e
