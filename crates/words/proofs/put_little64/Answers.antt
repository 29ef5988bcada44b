use Rattle.words.specs.Mirror.{with_little_word}
use borrow.Author.Rules.{rules}
use Rattle.words.proofs.put_little64.Goals as goal

pub returns : goal.returns
unfolding with_little_word
returns c = rw c.put32.ensures at c.put32-2.ensures
