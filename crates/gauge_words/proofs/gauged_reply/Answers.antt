use mathlib.Core.Path.{refl}
use Rattle.gauge_words.proofs.gauged_reply.Goals as goal

pub returns-in-Ok-clause-answer : goal.returns-in-Ok-clause-answer
returns-in-Ok-clause-answer c = rw c.in-Ok.is
    (refl)

pub returns-in-Ok-clause-gauge : goal.returns-in-Ok-clause-gauge
returns-in-Ok-clause-gauge c = rw c.in-Ok.is
    (refl)

pub returns-in-Err-clause-answer : goal.returns-in-Err-clause-answer
returns-in-Err-clause-answer c = rw c.in-Err.is
    (c.refused_reply.ensures.answer)

pub returns-in-Err-clause-gauge : goal.returns-in-Err-clause-gauge
returns-in-Err-clause-gauge c = rw c.in-Err.is
    (c.refused_reply.ensures.gauge)
