use native.Mathlib.Omega.{arith}
use Rattle.words.specs.Mirror.{swap_half}
use borrow.Author.Rules.{rules}
use Rattle.words.proofs.swap32.Goals as goal

pub returns-clause-answer : goal.returns-clause-answer
unfolding swap_half
returns-clause-answer c = rw (c.swap16-2.ensures.answer, c.swap16.ensures.answer)

pub returns-clause-bound : goal.returns-clause-bound
unfolding swap_half
returns-clause-bound c = omega arith
