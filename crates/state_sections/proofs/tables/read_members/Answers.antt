use native.Mathlib.Omega.{arith}
use mathlib.Core.Path.{sym, ap, ◌∙◌}
use Rattle.std.specs.Prelude.{Err}
use lib.ListN.{length-append, length-drop}
use Rattle.state_sections.proofs.Members.{members-room, members-taken, members-stop, members-different, members-same}
use Rattle.state_sections.proofs.tables.read_members.Goals as goal

pub slice_bounds-read_names-end : goal.slice_bounds-read_names-end
slice_bounds-read_names-end c = omega (arith, members-room _ _ c.read_count-count.ensures c.in-Ok.is c.requires)

pub slice_bounds-read_names-end-2 : goal.slice_bounds-read_names-end-2
slice_bounds-read_names-end-2 c = sym (members-taken _ _ c.read_count-count.ensures c.in-Ok.is c.requires)

pub read_names-names-requires-clause-here : goal.read_names-names-requires-clause-here
read_names-names-requires-clause-here c = (members-room _ _ c.read_count-count.ensures c.in-Ok.is c.requires).1

pub returns-in_default-names : goal.returns-in_default-names
returns-in_default-names c = members-stop _ _ c.read_count-count.ensures c.in-Ok.is c.requires _ c.read_names-names.ensures c.in_default-names.is

pub all_distinct-requires : goal.all_distinct-requires
all_distinct-requires c = simp (length-append, length-drop) (omega (arith, members-room _ _ c.read_count-count.ensures c.in-Ok.is c.requires, c.read_names-names.auto.names, members-taken _ _ c.read_count-count.ensures c.in-Ok.is c.requires))

pub returns-then-all_distinct : goal.returns-then-all_distinct
returns-then-all_distinct c = members-different _ _ c.read_count-count.ensures c.in-Ok.is c.requires _ c.read_names-names.ensures c.in-Ok-names.is c.read_names-names.auto.names c.all_distinct.ensures.value c.if-all_distinct.true

pub returns-else-all_distinct : goal.returns-else-all_distinct
returns-else-all_distinct c = ap Err c.at.ensures ∙ members-same _ _ c.read_count-count.ensures c.in-Ok.is c.requires _ c.read_names-names.ensures c.in-Ok-names.is c.read_names-names.auto.names c.all_distinct.ensures.value c.if-all_distinct.false
