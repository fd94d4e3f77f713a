use native.Mathlib.Omega.{arith}
use Rattle.state_codec.proofs.Words.{words-fit}
use Rattle.state_codec.proofs.read_words.Goals as goal

pub overflow_mul-result : goal.overflow_mul-result
overflow_mul-result c = omega (arith, words-fit _ _ c.read_count-count.ensures c.in-Ok.is)

pub overflow_add-result : goal.overflow_add-result
overflow_add-result c = omega (arith, words-fit _ _ c.read_count-count.ensures c.in-Ok.is)
