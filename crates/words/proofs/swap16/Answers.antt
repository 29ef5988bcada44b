use mathlib.Core.Path.{refl}
use native.Mathlib.Omega.{arith}
use Rattle.words.specs.Mirror.{swap_pair}
use borrow.Author.Rules.{rules}
use Rattle.words.proofs.swap16.Goals as goal

pub returns-clause-answer : goal.returns-clause-answer
unfolding swap_pair
returns-clause-answer c = refl

pub returns-clause-bound : goal.returns-clause-bound
unfolding swap_pair
returns-clause-bound c = omega arith
