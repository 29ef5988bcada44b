use mathlib.Core.Path.{sym}
use native.Mathlib.Omega.{arith}
use Rattle.classes.proofs.Numbers.{word_recorded}
use borrow.Author.Rules.{rules}
use Rattle.map_places.proofs.recorded_word.Goals as goal

pub returns-clause-answer : goal.returns-clause-answer
returns-clause-answer c = sym (word_recorded _ _ _ _ c.requires)

pub returns-clause-bound : goal.returns-clause-bound
returns-clause-bound c = omega arith
