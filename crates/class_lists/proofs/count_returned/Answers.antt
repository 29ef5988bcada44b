use Rattle.class_lists.proofs.Returned.{off, listed}
use borrow.Author.Rules.{rules}
use Rattle.class_lists.proofs.count_returned.Goals as goal

pub returns-then-is_off : goal.returns-then-is_off
returns-then-is_off c = search (rules, off)

pub returns-else-is_off : goal.returns-else-is_off
returns-else-is_off c = search (rules, listed)
