use Rattle.base.proofs.Tests.{picks}
use Rattle.words.specs.Word.{word}
use borrow.Author.Rules.{rules}
use Rattle.cells.proofs.get_word_in.Goals as goal

pub returns : goal.returns
unfolding word
returns c = search picks
