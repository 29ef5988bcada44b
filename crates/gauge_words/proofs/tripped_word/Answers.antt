use native.Mathlib.Omega.{arith}
use Rattle.gauge_words.proofs.tripped_word.Goals as goal

pub returns-in-Ok-true : goal.returns-in-Ok-true
returns-in-Ok-true c = rw (c.in-Ok-true.is, c.in-Ok-true.field-0-test) (omega arith)

pub returns-in-Ok-false : goal.returns-in-Ok-false
returns-in-Ok-false c = rw (c.in-Ok-false.is, c.in-Ok-false.field-0-test) (omega arith)

pub returns-in-Err : goal.returns-in-Err
returns-in-Err c = rw c.in-Err.is (omega arith)
