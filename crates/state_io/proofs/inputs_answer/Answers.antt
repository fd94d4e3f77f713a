use mathlib.Core.Path.{sym, ◌∙◌}
use Rattle.std.proofs.lemmas.Result.{err_from_is_err_and}
use Rattle.questions.proofs.Chains.{lacked, had}
use Rattle.state_index.specs.declared.SortKey.TheVariants.{Text}
use Rattle.state_index.specs.Keys.{at_most}
use Rattle.state_index.specs.Sort.{Sorts}
use Rattle.state_layout.specs.Tables.{table_of}
use Rattle.state_io.specs.Paths.{external_paths}
use Rattle.state_io.proofs.Tabled.{refused-27, refused-28, sought, each-answers}
use Rattle.state_io.proofs.inputs_answer.Goals as goal
use Rattle.state_io.proofs.inputs_answer.Goals.{After-external_paths-paths}

gathers : (c : After-external_paths-paths) → Sorts (at_most Text c.args.m.s.now) (external_paths c.args.m.s.now (table_of 4 c.args.m.s.now c.args.m.words.now) (table_of 10 c.args.m.s.now c.args.m.words.now)) c.external_paths-paths.result.now
gathers c = rw (c.keys-connectors.ensures.0, c.keys-connectors.ensures.1, c.table-inputs.ensures) at c.external_paths-paths.ensures

pub returns-in_err-count : goal.returns-in_err-count
returns-in_err-count c =
    let p = err_from_is_err_and c.from_residual.result c.from_residual.ensures.1 in
    let l = lacked _ _ c.ok_or.ensures.value c.in_err-count.was in
    rw (p.1, p.2, l.1) (refused-27 c.args.m.laid (gathers (goal.at.returns-in_err-count c).After-external_paths-paths) (sym c.count_paths.ensures ∙ l.0))

pub returns-then-count-definitions : goal.returns-then-count-definitions
returns-then-count-definitions c =
    refused-28 c.args.m.laid (gathers (goal.at.returns-then-count-definitions c).After-external_paths-paths)
    (sym c.count_paths.ensures ∙ had _ _ c.ok_or.ensures.value c.in_ok-count.was) (rw c.table-definitions.ensures at c.if-count-definitions.true)

pub definitions_answer-requires : goal.definitions_answer-requires
definitions_answer-requires c =
    rw c.keys-classes.ensures.0
    (sought c.args.m.laid (gathers (goal.at.definitions_answer-requires c).After-external_paths-paths)
    (sym c.count_paths.ensures ∙ had _ _ c.ok_or.ensures.value c.in_ok-count.was))

pub returns : goal.returns
returns c =
    rw (c.keys-classes.ensures.0, c.keys-classes.ensures.1, c.table-definitions.ensures) at c.definitions_answer.ensures
    ∙ each-answers c.args.m.laid (gathers (goal.at.returns c).After-external_paths-paths)
    (sym c.count_paths.ensures ∙ had _ _ c.ok_or.ensures.value c.in_ok-count.was) (rw c.table-definitions.ensures at c.if-count-definitions.false)
