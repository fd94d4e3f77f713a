use mathlib.Core.List.{[]}
use mathlib.Core.Path.{refl}
use lib.ListN.{get_or}
use Rattle.std.proofs.Common.{rules}
use Rattle.std.proofs.lemmas.Iterator.{YieldsList-from_range}
use Rattle.std.proofs.lemmas.Iterator.Search.{any_from_yields_List}
use Rattle.format.specs.Lists.{same, is_in}
use Rattle.questions.specs.Portability.{target_bound_classes, ascii}
use Rattle.state_portability.proofs.requires_target.Goals as goal

pub returns : goal.returns
unfolding is_in target_bound_classes ascii
returns c =
    any_from_yields_List (λ row. same c.args.class.now (get_or target_bound_classes row [])) _ _ c.any.result c.any.ensures.ran (YieldsList-from_range 0 15 15 refl refl) (λ x b q k. search rules)
