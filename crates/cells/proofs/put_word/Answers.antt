use Rattle.base.proofs.Tests.{picks}
use Rattle.words.specs.Word.{set_word}
use borrow.Author.Rules.{rules}
use Rattle.cells.proofs.put_word.Goals as goal

pub returns-else-k-s : goal.returns-else-k-s
unfolding set_word
returns-else-k-s c = search picks
