use native.Mathlib.Omega.{arith}
use Rattle.classes.proofs.Numbers.{own_shifted}
use Rattle.classes.proofs.class_own_word.Goals as goal

pub returns : goal.returns
returns c = own_shifted _ (omega arith) _ c.class_own.ensures.answer
