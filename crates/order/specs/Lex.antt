-- The order of two lists of numbers by their first difference, the shorter first where there is none; and how many agree before it.
use Rattle.std.specs.Prelude.{ℕ, suc, List, [], ◌∷◌, cond, ltb, eqb}
use Rattle.std.specs.declared.cmp.Ordering.{Ordering}
use Rattle.std.specs.declared.cmp.Ordering.TheVariants.{Less, Equal, Greater}
use Rattle.order.specs.declared.Compared.{Compared}

-- document 01, state_manifest_codec.rs: "compare by plain bytes"
unfoldable pub lex_compare : List ℕ → List ℕ → Ordering
lex_compare [] [] = Equal
lex_compare [] (y ∷ ys) = Less
lex_compare (x ∷ xs) [] = Greater
lex_compare (x ∷ xs) (y ∷ ys) = cond (ltb x y) Less (cond (ltb y x) Greater (lex_compare xs ys))

-- how many elements agree at the front
unfoldable pub agreeing : List ℕ → List ℕ → ℕ
agreeing [] ys = 0
agreeing (x ∷ xs) [] = 0
agreeing (x ∷ xs) (y ∷ ys) = cond (eqb x y) (suc (agreeing xs ys)) 0

-- what `compare` answers
abbrev pub compared : List ℕ → List ℕ → Compared
compared xs ys = record { order = lex_compare xs ys; agree = agreeing xs ys }

-- one order after another, the Rust's `then_with`: the second decides where the first finds no difference
abbrev pub then_with : Ordering → Ordering → Ordering
then_with Less q = Less
then_with Equal q = q
then_with Greater q = Greater
