-- The numbers that stand for answers in the C interface: include/archive.h has them for its users.
use Rattle.std.specs.Prelude.{ℕ, List, [], ◌∷◌}
use Rattle.std.specs.Prelude.{Result, Ok, Err}
use Rattle.std.specs.declared.cmp.Ordering.{Ordering}
use Rattle.std.specs.declared.cmp.Ordering.TheVariants.{Less, Equal, Greater}
use Rattle.order.specs.declared.Compared.{Compared}
use Rattle.state_reader.specs.Read.{TextRead}
use Rattle.state_key_order.specs.declared.KeyRefusal.{KeyRefusal}
use Rattle.state_key_order.specs.declared.KeyRefusal.TheVariants.{Left, Right}

-- the result for an order
abbrev pub order_code : Ordering → ℕ
order_code Less = 0
order_code Equal = 1
order_code Greater = 2

-- the result for a string, and the two words of `answer`
abbrev pub string_code : TextRead → ℕ
string_code (Ok text) = 0
string_code (Err d) = d.question.0

abbrev pub string_words : TextRead → List ℕ
string_words (Ok text) = text.start ∷ text.end ∷ []
string_words (Err d) = d.at ∷ 0 ∷ []

-- the result for two keys, and the two words of `answer`
abbrev pub keys_code : Result Compared KeyRefusal → ℕ
keys_code (Ok c) = order_code c.order
keys_code (Err (Left d)) = 3
keys_code (Err (Right d)) = 4

abbrev pub keys_words : Result Compared KeyRefusal → List ℕ
keys_words (Ok c) = c.agree ∷ 0 ∷ []
keys_words (Err (Left d)) = d.question.0 ∷ d.at ∷ []
keys_words (Err (Right d)) = d.question.0 ∷ d.at ∷ []
