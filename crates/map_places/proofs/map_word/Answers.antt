use native.Mathlib.Omega.{arith}
use borrow.Author.Rules.{rules}
use Rattle.map_places.proofs.Places.{word_chosen}
use Rattle.map_places.proofs.map_word.Goals as goal

pub returns-clause-answer : goal.returns-clause-answer
returns-clause-answer c = word_chosen _ _ _ _ _ _ (c.chosen-records.ensures.small, c.chosen-records.ensures.large) (c.chosen-before.ensures.small, c.chosen-before.ensures.large)

pub returns-clause-bound : goal.returns-clause-bound
returns-clause-bound c = omega arith
