use native.Mathlib.Omega.{arith}
use Rattle.classes.proofs.Numbers.{own_digit, own-small}
use Rattle.classes.proofs.class_own.Goals as goal

pub returns-clause-answer : goal.returns-clause-answer
returns-clause-answer c = own_digit _ (omega arith)

pub returns-clause-bound : goal.returns-clause-bound
returns-clause-bound c = omega (arith, own_digit c.args.c (omega arith), own-small c.args.c)
