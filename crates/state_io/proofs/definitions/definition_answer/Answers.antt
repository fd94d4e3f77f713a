use Rattle.state.specs.Outcome.{said}
use Rattle.state_io.specs.Paths.{definition_at, defined_among}
use Rattle.questions.proofs.Chains.{lacked, had}
use Rattle.state_io.proofs.Defined.{seek-order, not_found, undefined, decided, minimum-refused, maximum-answers}
use Rattle.std.proofs.lemmas.Result.{err_from_is_err_and}
use mathlib.Core.Path.{◌≡◌, ap, ◌∙◌}
use Rattle.state_io.proofs.definitions.definition_answer.Goals as goal
use Rattle.state_io.proofs.definitions.definition_answer.Goals.{After-same_type}

is-defined : (c : After-same_type) → defined_among c.args.classes.s.now c.args.paths.now (definition_at c.args.classes.s.now c.args.at) ≡ c.same_type.result
is-defined c =
    decided _ _ _ c.text_part-key.ensures c.find.ensures c.requires _ (had _ _ c.ok_or.ensures.value c.in_ok-i.was) c.word_at.ensures
    c.text_end-t.ensures c.type_at.ensures c.same_type.ensures

pub find-requires : goal.find-requires
find-requires c = record { ordered = seek-order c.args.classes.s.now c.args.paths.now c.requires.ordered }

pub returns-in_err-i : goal.returns-in_err-i
returns-in_err-i c =
    let p = err_from_is_err_and c.from_residual.result c.from_residual.ensures.1 in
    let l = lacked _ _ c.ok_or.ensures.value c.in_err-i.was in
    rw (p.1, p.2, l.1) (ap said (not_found _ c.args.paths.now c.args.at _ c.text_part-key.ensures (c.find.ensures.nothing l.0)))

pub word_at-requires : goal.word_at-requires
word_at-requires c = (c.find.ensures.at c.in_ok-i.i (had _ _ c.ok_or.ensures.value c.in_ok-i.was)).0

pub returns-then-not-same_type : goal.returns-then-not-same_type
returns-then-not-same_type c =
    ap said (undefined _ c.args.paths.now c.args.at _ (is-defined (goal.at.returns-then-not-same_type c).After-same_type ∙ c.if-not-same_type.true))

pub returns-in_err-bound_answer : goal.returns-in_err-bound_answer
returns-in_err-bound_answer c =
    let p = err_from_is_err_and c.from_residual-in_err-bound_answer.result c.from_residual-in_err-bound_answer.ensures.1 in
    let y = is-defined (goal.at.returns-in_err-bound_answer c).After-same_type ∙ c.if-not-same_type.false in
    rw (p.1, p.2) (minimum-refused _ _ _ _ y c.text_end-t.ensures c.type_end-minimum.ensures c.bound_end-maximum.ensures c.bound_answer.ensures c.in_err-bound_answer.was)

pub returns : goal.returns
returns c =
    let y = is-defined (goal.at.returns c).After-same_type ∙ c.if-not-same_type.false in
    c.bound_answer-2.ensures
    ∙ maximum-answers _ _ _ _ y c.text_end-t.ensures c.type_end-minimum.ensures c.bound_end-maximum.ensures c.bound_answer.ensures c.in_ok-bound_answer.was
