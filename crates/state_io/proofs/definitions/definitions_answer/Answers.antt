use Prim.Native.Nat.{ℕ}
use mathlib.Core.Path.{ap, ◌∙◌}
use Rattle.std.proofs.Common.{rules}
use Rattle.std.proofs.lemmas.Iterator.{YieldsList-from_slice}
use Rattle.std.proofs.lemmas.Iterator.Consumers.{YieldsList-from_enumerate, YieldsList-at}
use Rattle.state.specs.Outcome.{said}
use Rattle.questions.specs.Sets.{first}
use Rattle.state_layout.specs.Keys.{classes_of}
use Rattle.state_io.specs.Paths.{definition_at, answer_among}
use Rattle.state_io.proofs.Firsts.{said-each, behind_places}
use Rattle.state_io.proofs.definitions.definitions_answer.Goals as goal

pub returns : goal.returns
returns c =
    let answer = λ (p : ℕ). answer_among c.args.classes.s.now (classes_of c.args.classes.s.now c.args.classes.words.now) c.args.paths.now (definition_at c.args.classes.s.now p) in
    said-each _ (λ (p : ℕ × ℕ). answer p.1) c.try_for_each.ensures.ran
    (YieldsList-from_enumerate (YieldsList-at c.enumerate.ensures.source (YieldsList-from_slice c.args.definitions.now (cc))) (cc)) (λ x r q k. search rules)
    ∙ ap (λ qs. said (first qs)) (behind_places answer 0 c.args.definitions.now)
