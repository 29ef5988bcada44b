use borrow.Author.Rules.{rules}
use Rattle.validate.proofs.validate.Goals as goal

pub returns : goal.returns
returns c = rw c.broken_rule.ensures at c.is_none.ensures
