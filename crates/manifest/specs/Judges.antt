-- What `judge` promises of its answer and of the lent index.
use Rattle.std.specs.Prelude.{Ok, Err, ℕ, ◌≡◌, List, length}
use Rattle.state.specs.Outcome.{Stepped, step_of, refusal}
use Rattle.questions.specs.Portability.{target_bound_classes}
use Rattle.questions.specs.Answers.{judge}
use Rattle.state_layout.specs.Tables.{Tabled}

pub record Judges (s : List ℕ) (revision : ℕ) (r : Stepped) (old new : List ℕ) : Type 0 where
  pub is : r ≡ step_of (judge target_bound_classes revision s (length old))
  -- where all questions say yes, the index holds the manifest's tables; after refusal 2 no word has changed
  pub tabled : (n : ℕ) → r ≡ Ok n → Tabled s new
  pub untouched : (p : ℕ) → r ≡ Err (refusal 2 p) → new ≡ old
  pub long : length new ≡ length old
