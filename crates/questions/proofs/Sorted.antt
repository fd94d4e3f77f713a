-- Words by their offset are the same words: a permutation.
use Prim.Native.Nat.{ℕ}
use mathlib.Core.Path.{refl}
use mathlib.Core.Bool.{Bool, true, false, cond}
use mathlib.Core.List.Permᴰ
use mathlib.Core.List.{List, [], ◌∷◌, Permᴰ}
use lib.Dec.{leb}
use Rattle.questions.specs.Slots.{insert, by_offset}

-- one among those in order
insert-perm : (w : ℕ × ℕ) (ws : List (ℕ × ℕ)) → Permᴰ (w ∷ ws) (insert w ws)
unfolding insert
insert-perm w [] = Permᴰ.refl (w ∷ [])
insert-perm w (x ∷ ws) = go (leb w.0 x.0) (insert-perm w ws)
  where
    go : (u : Bool) → Permᴰ (w ∷ ws) (insert w ws) → Permᴰ (w ∷ (x ∷ ws)) (cond u (w ∷ (x ∷ ws)) (x ∷ insert w ws))
    go true ih = Permᴰ.refl (w ∷ (x ∷ ws))
    go false ih = Permᴰ.trans (Permᴰ.swap refl refl) (Permᴰ.cons refl ih)

-- all in their order
pub sort-perm : (ws : List (ℕ × ℕ)) → Permᴰ ws (by_offset ws)
unfolding by_offset
sort-perm [] = Permᴰ.nil
sort-perm (w ∷ ws) = Permᴰ.trans (Permᴰ.cons refl (sort-perm ws)) (insert-perm w (by_offset ws))
