use mathlib.Core.Path.{refl}
use borrow.Author.Rules.{rules}
use Rattle.keeper_put.proofs.store_at.Goals as goal

pub returns-clause-answer : goal.returns-clause-answer
returns-clause-answer c = refl

pub returns-clause-pool : goal.returns-clause-pool
returns-clause-pool c = rw (c.copy.ensures, c.place-at.ensures) at c.give_old.ensures

pub returns-clause-directory : goal.returns-clause-directory
returns-clause-directory c = rw c.word_of.ensures
