use mathlib.Core.Path.{sym}
use native.Mathlib.Omega.{arith}
use Rattle.map_occupancy.proofs.Words.{words_recorded}
use borrow.Author.Rules.{rules}
use Rattle.map_occupancy.proofs.map_words.Goals as goal

pub returns-else-c-lt3-clause-answer : goal.returns-else-c-lt3-clause-answer
returns-else-c-lt3-clause-answer c = sym (words_recorded _ (search rules))

pub returns-else-c-lt3-clause-bound : goal.returns-else-c-lt3-clause-bound
returns-else-c-lt3-clause-bound c = omega arith
