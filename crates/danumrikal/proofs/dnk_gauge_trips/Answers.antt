use mathlib.Core.Path.{◌∙◌, ap}
use Rattle.answer_words.specs.Word.{word_of}
use Rattle.danumrikal.proofs.dnk_gauge_trips.Goals as goal

pub returns : goal.returns
returns c = c.tripped_word.ensures ∙ ap word_of c.trips.ensures
