use Rattle.words.proofs.Chain.{chain}
use borrow.Author.Rules.{rules}
use Rattle.words.proofs.little64.Goals as goal

pub returns : goal.returns
returns c = rw (← chain) (cc)
