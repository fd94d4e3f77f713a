-- What `try_for_each` answers of calls that ask a question each: the first that says no.
use Prim.Native.Nat.{ℕ, suc, ◌+◌}
use mathlib.Core.Path.{◌≡◌, refl, sym, ap, ◌∙◌, subst}
use mathlib.Core.List.{List, [], ◌∷◌, ◌++◌, map, append-nil, map-append}
use lib.ListN.{length, drop}
use lib.Seq.{drop-cons}
use denote.Param.Members.{Mut}
use Rattle.std.specs.Prelude.{Option, Some, None, Result, Ok, Err}
use Rattle.std.specs.Fn.{Called}
use Rattle.std.proofs.lemmas.List.{take-append-drop}
use Rattle.std.specs.List.{FoldsTo, enumerate_from}
use Rattle.std.specs.Result.{IsErr, IsErrAnd, result_from_control_flow}
use Rattle.std.proofs.lemmas.Result.{err_from_is_err_and}
use Rattle.std.specs.Iterator.{YieldsThen, TryCallsOnEach, TryForEachTurn}
use Rattle.std.proofs.lemmas.Iterator.{YieldsList}
use Rattle.std.proofs.lemmas.Iterator.Consumers.{YieldsList-so_far, YieldsList-turn, YieldsList-end}
use Rattle.state.specs.declared.Question.{Question}
use Rattle.state.specs.Outcome.{said}
use Rattle.questions.specs.Sets.{first}
use Rattle.questions.proofs.Chains.{answered-yes, answered-no}

module _ {A B F : Type 0} (v : A → B) (g : Mut F (A × Unit {0}) (Result Unit Question)) (f : F) (answer : B → ℕ)
    (calls : (x : A) (r : Result Unit Question) (q : F) → Called g f (x, tt) r q → (q ≡ f) × (r ≡ said (answer (v x)))) where
  abbrev Passed : List A → F → Type 0
  Passed xs q = FoldsTo (TryForEachTurn g (λ r c. r ≡ result_from_control_flow c)) f xs q

  passed : (xs : List A) (qs : List ℕ) (q : F) → Passed xs q → (first qs ≡ first (map answer (map v xs) ++ qs)) × (q ≡ f)
  passed [] qs q h = (refl, sym h)
  passed (x ∷ xs) qs q h =
      let c = calls x h.1.0 h.0 h.1.1 in
      let t = passed xs qs q (subst (λ (p : F). FoldsTo (TryForEachTurn g (λ r c. r ≡ result_from_control_flow c)) p xs q) c.0 h.2) in
      (t.0 ∙ answered-yes (answer (v x)) c.1 h.1.2 (map answer (map v xs) ++ qs), t.1)

  module _ {S : Type 0} {steps : S → Option A → S → Type 0} {s : S} {all : List B} (y : YieldsList steps v s all) {u : S} {r : Result Unit Question} (xs : List A) (q : F) (h : Passed xs q) where
    ended : YieldsThen steps s xs None u → r ≡ Ok tt → r ≡ said (first (map answer all))
    unfolding first
    ended e b = b ∙ ap said (rw (append-nil, (YieldsList-end y xs e.0 e.1 None u refl e.2).0) at (passed xs [] q h).0)

    stopped : {x : A} → YieldsThen steps s xs (Some x) u → {a : Result Unit Question} {p : F} → Called g q (x, tt) a p → {d : Question} → a ≡ Err d → r ≡ Err d → r ≡ said (first (map answer all))
    stopped {x} e {a} {p} k i z =
        let n = YieldsList-turn y xs e.0 e.1 (Some x) u x refl e.2 in
        let rest = drop (suc (length xs)) all in
        let w = passed xs (answer (v x) ∷ map answer rest) q h in
        let c = calls x a p (subst (λ (j : F). Called g j (x, tt) a p) w.1 k) in
        let split : map v xs ++ (v x ∷ rest) ≡ all =
        rw (YieldsList-so_far y xs e.0 e.1, n.1, ← drop-cons all (length xs) (v x) n.0) (take-append-drop (length xs) all) in
        z ∙ answered-no (answer (v x)) c.1 i (map answer rest) ∙ ap said (w.0 ∙ ap first (sym (map-append answer (map v xs) (v x ∷ rest)) ∙ ap (map answer) split))

pub said-each : {S A B F : Type 0} {steps : S → Option A → S → Type 0} {v : A → B} {g : Mut F (A × Unit {0}) (Result Unit Question)} {s : S} (u : S) {f : F} {r : Result Unit Question} {all : List B} (answer : B → ℕ)
    → TryCallsOnEach steps g (λ r x. r ≡ result_from_control_flow x) (λ e r. IsErr r × IsErrAnd r (λ d. d ≡ e.0)) s f r u → YieldsList steps v s all
    → ((x : A) (r : Result Unit Question) (q : F) → Called g f (x, tt) r q → (q ≡ f) × (r ≡ said (answer (v x)))) → r ≡ said (first (map answer all))
said-each {v = v} {g = g} u {f = f} {r = r} answer (xs, None, q, e, h, m) y calls = ended v g f answer calls y xs q h e m
said-each {v = v} {g = g} u {f = f} {r = r} answer (xs, Some x, q, e, h, m) y calls =
    let p = err_from_is_err_and r m.5.1 in stopped v g f answer calls y xs q h e m.3 m.4 (p.1 ∙ ap Err p.2)

-- of those behind their places
pub behind_places : {B : Type 0} (answer : B → ℕ) (n : ℕ) (l : List B) → map (λ (p : ℕ × B). answer p.1) (enumerate_from n l) ≡ map answer l
behind_places answer n [] = refl
behind_places answer n (x ∷ l) = ap (λ (qs : List ℕ). answer x ∷ qs) (behind_places answer (n + 1) l)
