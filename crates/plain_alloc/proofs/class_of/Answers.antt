use Rattle.sizes.proofs.Laws.{class-is}
use mathlib.Core.Path.{◌∙◌}
use borrow.Author.Rules.{rules}
use Rattle.plain_alloc.proofs.class_of.Goals as goal

pub returns : goal.returns
returns c = (c.class_for.ensures.answer ∙ class-is _ (search rules), c.class_for.ensures.bound)
