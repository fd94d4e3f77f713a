-- Keys that ascend are the same set exactly if they are the same list.
use Prim.Native.Nat.{ℕ}
use mathlib.Core.Path.{◌≡◌, refl, sym}
use mathlib.Core.Bool.{true, ◌&&◌, true≢false}
use mathlib.Core.List.{List, [], ◌∷◌}
use Rattle.std.proofs.lemmas.Bool.{and_parts as both}
use Rattle.format.specs.Lists.{same}
use Rattle.format.proofs.Lists.{same_true, same_refl}
use Rattle.questions.specs.Sets.{all_in, same_set}
use Rattle.questions.proofs.Sets.{both_ways}
use Rattle.questions.proofs.Ascends.{Ascends, all-in-self, same_if}
use Rattle.state_slots.specs.Walk.{same_lists}

pub lists-same : (xs ys : List (List ℕ)) → same_lists xs ys ≡ true → xs ≡ ys
unfolding same_lists
lists-same [] [] h = refl
lists-same [] (y ∷ ys) h = absurd (true≢false (sym h))
lists-same (x ∷ xs) [] h = absurd (true≢false (sym h))
lists-same (x ∷ xs) (y ∷ ys) h = let p = both (same x y) (same_lists xs ys) h in rw (same_true x y p.0, lists-same xs ys p.1)

same-lists : (xs : List (List ℕ)) → same_lists xs xs ≡ true
unfolding same_lists
same-lists [] = refl
same-lists (x ∷ xs) = rw (same_refl x, same-lists xs)

pub same_set-lists : (xs ys : List (List ℕ)) → Ascends xs → Ascends ys → same_lists xs ys ≡ same_set xs ys
unfolding same_set
same_set-lists xs ys p q = both_ways (same_lists xs ys) (all_in xs ys && all_in ys xs)
    (λ h. rw (lists-same xs ys h, all-in-self ys))
    (λ h. let b = both (all_in xs ys) (all_in ys xs) h in rw (same_if xs ys p q b.0 b.1) (same-lists ys))
