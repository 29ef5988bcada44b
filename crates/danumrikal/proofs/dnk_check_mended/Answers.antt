use mathlib.Core.Path.{◌∙◌, ap}
use Rattle.answer_words.specs.Word.{word_of}
use Rattle.danumrikal.proofs.dnk_check_mended.Goals as goal

pub returns : goal.returns
returns c = c.batched_word.ensures ∙ ap word_of c.check_mended.ensures
