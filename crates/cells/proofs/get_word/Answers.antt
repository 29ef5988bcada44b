use Rattle.base.proofs.Tests.{picks}
use Rattle.words.specs.Word.{word}
use borrow.Author.Rules.{rules}
use Rattle.cells.proofs.get_word.Goals as goal

pub returns-else-k-s : goal.returns-else-k-s
unfolding word
returns-else-k-s c = search picks
