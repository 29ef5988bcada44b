use mathlib.Core.Path.{◌∙◌, ap}
use Rattle.answer_words.specs.Word.{word_of}
use Rattle.danumrikal.proofs.dnk_gauge_sample.Goals as goal

pub returns-clause-answer : goal.returns-clause-answer
returns-clause-answer c = let s = c.sample.ensures in
    c.gauged_reply.ensures.answer ∙ ap word_of s.answer

pub returns-clause-gauge : goal.returns-clause-gauge
returns-clause-gauge c = let s = c.sample.ensures in
    c.gauged_reply.ensures.gauge ∙ s.gauge
