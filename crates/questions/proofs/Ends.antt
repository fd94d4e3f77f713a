-- No slot of a manifest that passes question 23 ends above 2^64 − 1.
use mathlib.Core.Path.{◌≡◌, refl}
use mathlib.Core.Bool.{true}
use mathlib.Core.List.{List, [], ◌∷◌, map}
use Rattle.format.specs.Format.{El}
use Rattle.format.specs.Manifest.{blocks, state_slots, manifest}
use Rattle.format.specs.Fields.{Entry, blocks_of, slots_of}
use Rattle.questions.specs.Sets.{all, ◌unless◌, first}
use Rattle.questions.specs.Slots.{length_is, end_fits, slot_answer, slots}
use Rattle.questions.proofs.Chains.{first-none, unless-none}

end_fits-slot : (bs : List (Entry blocks)) (e : Entry state_slots) → slot_answer bs e ≡ 0 → end_fits e ≡ true
unfolding slot_answer
end_fits-slot bs e h = unless-none 22 (end_fits e) (first-none _ [] (first-none (22 unless (length_is bs e)) _ h).1).0

all_fit : (bs : List (Entry blocks)) (es : List (Entry state_slots)) → first (map (slot_answer bs) es) ≡ 0 → all end_fits es ≡ true
unfolding all
all_fit bs [] h = refl
all_fit bs (e ∷ es) h = let p = first-none (slot_answer bs e) _ h in rw (end_fits-slot bs e p.0) (all_fit bs es p.1)

pub ends-fit : (m : El manifest) → first (slots m) ≡ 0 → all end_fits (slots_of m) ≡ true
unfolding slots
ends-fit m h = all_fit (blocks_of m) (slots_of m) (first-none _ _ (first-none _ _ h).1).0
