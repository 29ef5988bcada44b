use mathlib.Core.Path.{refl}
use borrow.Author.Rules.{rules}
use Rattle.free_all.proofs.free_whole.Goals as goal

pub returns-clause-answer : goal.returns-clause-answer
returns-clause-answer c = refl

pub returns-clause-slice : goal.returns-clause-slice
returns-clause-slice c = c.free_each.ensures
