use mathlib.Core.Path.{◌∙◌, ap}
use Rattle.answer_words.specs.Word.{word_of}
use Rattle.danumrikal.proofs.dnk_keeper_find.Goals as goal

pub returns : goal.returns
returns c = c.held_word.ensures ∙ ap word_of c.find.ensures
