use native.Mathlib.Omega.{arith}
use Rattle.model.specs.Classes.{counted}
use Rattle.classes.proofs.Numbers.{own-least}
use Rattle.classes.proofs.total_count.Goals as goal

pub overflow_sub-result : goal.overflow_sub-result
overflow_sub-result c = omega (arith, own-least c.args.c)

pub returns : goal.returns
unfolding counted
returns c = omega arith
