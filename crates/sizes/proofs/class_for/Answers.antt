use native.Mathlib.Omega.{arith}
use Rattle.sizes.proofs.Leading.{leading_class, leading_least, leading_most}
use Rattle.sizes.proofs.class_for.Goals as goal

pub overflow_sub-result-2 : goal.overflow_sub-result-2
overflow_sub-result-2 c = omega (arith, leading_least c.args.size c.requires.0 c.requires.1)

pub returns-clause-answer : goal.returns-clause-answer
returns-clause-answer c = let n = c.args.size in
    leading_class n c.requires.0 c.requires.1

pub returns-clause-bound : goal.returns-clause-bound
returns-clause-bound c = let n = c.args.size in
    omega (arith, leading_most n c.requires.0 c.requires.1)
