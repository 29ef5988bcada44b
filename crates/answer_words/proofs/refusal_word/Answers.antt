use native.Mathlib.Omega.{arith}
use Rattle.answer_words.proofs.refusal_word.Goals as goal

pub overflow_mul-result : goal.overflow_mul-result
overflow_mul-result c = omega arith

pub returns : goal.returns
returns c = omega arith
