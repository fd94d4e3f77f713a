-- What slots and their blocks are where no question says no.
use Prim.Native.Nat.{ℕ, ◌<◌}
use native.Mathlib.Omega.{arith}
use mathlib.Core.Path.{◌≡◌, refl, sym, ◌∙◌}
use mathlib.Core.Bool.{true, not}
use mathlib.Core.List.{List, [], ◌∷◌, map}
use lib.Dec.{eqb}
use borrow.Author.Tests.{eqb-true, eqb-false, ltb-true, not-true}
use Rattle.std.proofs.lemmas.Bool.{and_parts as both}
use Rattle.format.specs.Format.{El}
use Rattle.format.specs.Manifest.{enums, blocks, state_slots, manifest}
use Rattle.format.specs.Fields.{Entry, enums_of, blocks_of, state_revision, state_len, slot_length}
use Rattle.format.specs.Admits.{All}
use Rattle.questions.specs.Sets.{◌unless◌, first}
use Rattle.questions.specs.Declarations.{is_stateful, kind_holds, block_answer, declarations}
use Rattle.questions.specs.Slots.{slot_name, end_fits, slot_answer, words}
use Rattle.questions.proofs.Chains.{first_one, first_rest, first-none, unless-none, each_none}
use Rattle.questions.proofs.Kept.{all_so}
use Rattle.questions.proofs.Named.{block_name, Alone, length-is}
use Rattle.state_slots.specs.Walk.{pairwise, pair_answer, Held}

-- ---- 12 says yes: no stateful block has length 0
kind-holds : (es : List (Entry enums)) (b : Entry blocks) → block_answer es b ≡ 0 → kind_holds b ≡ true
unfolding block_answer
kind-holds es b h = unless-none 11 (kind_holds b) (first-none (12 unless (kind_holds b)) _ h).0

kinds-hold : (m : El manifest) → first (declarations m) ≡ 0 → All (λ b. kind_holds b ≡ true) (blocks_of m)
unfolding declarations
kinds-hold m h =
    all_so (kind-holds (enums_of m)) (blocks_of m) (each_none (block_answer (enums_of m)) (blocks_of m) (first-none _ _ (first-none _ _ h).1).0)

stateful-some : (b : Entry blocks) → kind_holds b ≡ true → is_stateful b ≡ true → 0 < state_len b
unfolding kind_holds
stateful-some b h s =
    let p = both (not (eqb (state_revision b) 0)) (not (eqb (state_len b) 0)) (rw s at h) in
    let n = eqb-false (state_len b) 0 (not-true (eqb (state_len b) 0) p.1) in
    omega (arith, n)

pub blocks-some : (m : El manifest) → first (declarations m) ≡ 0 → All (λ b. is_stateful b ≡ true → 0 < state_len b) (blocks_of m)
blocks-some m h = all_so stateful-some (blocks_of m) (kinds-hold m h)

-- ---- 22 and 23 of slots that name these blocks, each alone of its name
pub slot-answers : (bs ks : List (Entry blocks)) (es : List (Entry state_slots)) → All (Alone block_name bs) ks → map slot_name es ≡ map block_name ks
    → first (map (slot_answer bs) es) ≡ pairwise pair_answer ks es
unfolding pairwise pair_answer slot_answer first
slot-answers bs [] [] a h = refl
slot-answers bs [] (e ∷ es) a h = let z : ◌≡◌ {A = ℕ} 0 1 = cc in absurd (omega arith)
slot-answers bs (b ∷ ks) [] a h = let z : ◌≡◌ {A = ℕ} 0 1 = cc in absurd (omega arith)
slot-answers bs (b ∷ ks) (e ∷ es) a h =
    first_rest (slot_answer bs e) (map (slot_answer bs) es)
    ∙ rw (length-is bs b e a.0 (cc), slot-answers bs ks es a.1 (cc))

pair-none : (b : Entry blocks) (e : Entry state_slots) → pair_answer b e ≡ 0 → 0 < state_len b → Held e
unfolding pair_answer end_fits words
pair-none b e h p =
    let f = first-none (22 unless (eqb (slot_length e) (state_len b))) (23 unless (end_fits e) ∷ []) h in
    let l : slot_length e ≡ state_len b = eqb-true (slot_length e) (state_len b) (unless-none 21 _ f.0) in
    (omega arith, ltb-true _ _ (unless-none 22 (end_fits e) (sym (first_one (23 unless (end_fits e))) ∙ f.1)))

pub pairs-none : (ks : List (Entry blocks)) (es : List (Entry state_slots)) → map slot_name es ≡ map block_name ks → pairwise pair_answer ks es ≡ 0 → All (λ b. 0 < state_len b) ks → All Held es
unfolding pairwise
pairs-none ks [] n h p = tt
pairs-none [] (e ∷ es) n h p = let z : ◌≡◌ {A = ℕ} 0 1 = cc in absurd (omega arith)
pairs-none (b ∷ ks) (e ∷ es) n h p =
    let f = first-none (pair_answer b e) (pairwise pair_answer ks es ∷ []) h in
    (pair-none b e f.0 p.0, pairs-none ks es (cc) (sym (first_one (pairwise pair_answer ks es)) ∙ f.1) p.1)
