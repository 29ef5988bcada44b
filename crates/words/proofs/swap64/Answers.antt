use Rattle.words.specs.Mirror.{swap_word}
use borrow.Author.Rules.{rules}
use Rattle.words.proofs.swap64.Goals as goal

pub returns : goal.returns
unfolding swap_word
returns c = rw (c.swap32-2.ensures.answer, c.swap32.ensures.answer)
