use borrow.Author.Rules.{rules}
use Rattle.classes.proofs.Numbers.{own_8, own_16, own_32, own-past}
use Rattle.classes.proofs.own_count.Goals as goal

pub returns-in-0-clause-answer : goal.returns-in-0-clause-answer
returns-in-0-clause-answer c = own_8 _ (search rules)

pub returns-in-1-clause-answer : goal.returns-in-1-clause-answer
returns-in-1-clause-answer c = own_16 _ (search rules)

pub returns-in-2-clause-answer : goal.returns-in-2-clause-answer
returns-in-2-clause-answer c = own_32 _ (search rules)

pub returns-in_default-clause-answer : goal.returns-in_default-clause-answer
returns-in_default-clause-answer c = own-past _ (search rules)
