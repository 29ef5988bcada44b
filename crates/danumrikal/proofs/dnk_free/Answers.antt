use mathlib.Core.Path.{◌∙◌, ap}
use Rattle.answer_words.specs.Word.{word_of}
use Rattle.danumrikal.proofs.dnk_free.Goals as goal

pub returns-clause-answer : goal.returns-clause-answer
returns-clause-answer c = c.freed_word.ensures ∙ ap word_of c.free.ensures.answer

pub returns-clause-slice : goal.returns-clause-slice
returns-clause-slice c = c.free.ensures.slice
