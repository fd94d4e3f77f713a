-- Document 01, "Then over the whole": questions 11 to 32 in their order.
use Rattle.std.specs.Prelude.{ℕ, List, ◌++◌}
use Rattle.format.specs.Format.{El}
use Rattle.format.specs.Manifest.{manifest}
use Rattle.questions.specs.Sets.{first}
use Rattle.questions.specs.Declarations.{declarations}
use Rattle.questions.specs.References.{references, boundaries}
use Rattle.questions.specs.Slots.{slots}
use Rattle.questions.specs.Inputs.{input_definitions_hold}
use Rattle.questions.specs.Portability.{portability_holds}

-- 11 to 16, 17 to 20, 21 to 24, 25 and 26, 27 to 30, 31 and 32
unfoldable pub answers : (bound : List (List ℕ)) → (revision : ℕ) → El manifest → List ℕ
answers bound revision m =
    declarations m ++ (references m ++ (slots m ++ (boundaries m ++ (input_definitions_hold m ++ portability_holds bound revision m))))

-- the number of the first question that says no; 0 where none does
unfoldable pub first_failing : (bound : List (List ℕ)) → (revision : ℕ) → El manifest → ℕ
first_failing bound revision m = first (answers bound revision m)
