use Rattle.base.proofs.Tests.{picks}
use Rattle.words.specs.Word.{set_word}
use borrow.Author.Rules.{rules}
use Rattle.cells.proofs.put_word_in.Goals as goal

pub returns : goal.returns
unfolding set_word
returns c = search picks
