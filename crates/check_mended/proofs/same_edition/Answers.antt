use borrow.Author.Rules.{rules}
use Rattle.check_mended.proofs.same_edition.Goals as goal

pub returns : goal.returns
returns c = cc
