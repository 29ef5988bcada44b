use Rattle.words.specs.Mirror.{with_little_half}
use borrow.Author.Rules.{rules}
use Rattle.words.proofs.put32.Goals as goal

pub returns : goal.returns
unfolding with_little_half
returns c = rw c.put16.ensures at c.put16-2.ensures
