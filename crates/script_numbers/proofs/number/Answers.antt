use native.Mathlib.Omega.{arith}
use Rattle.script_numbers.proofs.Values.{number_fits, number_is}
use Rattle.script_numbers.proofs.number.Goals as goal

pub overflow_cast-result : goal.overflow_cast-result
overflow_cast-result c = record { fits = omega (arith, number_fits _ c.requires, number_is _ _ c.requires c.value.ensures.answer) }

pub returns : goal.returns
returns c = number_is _ _ c.requires c.value.ensures.answer
