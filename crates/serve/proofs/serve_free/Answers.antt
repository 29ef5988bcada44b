use mathlib.Core.Path.{ap, ◌∙◌}
use borrow.Author.Rules.{rules}
use Rattle.answer_words.specs.Word.{word_of}
use Rattle.serve.proofs.serve_free.Goals as goal

pub returns-clause-answer : goal.returns-clause-answer
returns-clause-answer c = let done = c.free_sound in
    c.freed_word.ensures ∙ ap word_of done.ensures.answer

pub returns-clause-slice : goal.returns-clause-slice
returns-clause-slice c = let done = c.free_sound in
    done.ensures.slice
