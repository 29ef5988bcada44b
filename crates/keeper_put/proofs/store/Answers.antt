use mathlib.Core.Path.{refl}
use borrow.Author.Rules.{rules}
use Rattle.keeper_put.proofs.store.Goals as goal

pub returns-in-Ok-clause-answer : goal.returns-in-Ok-clause-answer
returns-in-Ok-clause-answer c = rw c.in-Ok.is
    (c.store_at.ensures.answer)

pub returns-in-Ok-clause-pool : goal.returns-in-Ok-clause-pool
returns-in-Ok-clause-pool c = rw c.in-Ok.is
    (c.store_at.ensures.pool)

pub returns-in-Ok-clause-directory : goal.returns-in-Ok-clause-directory
returns-in-Ok-clause-directory c = rw c.in-Ok.is
    (c.store_at.ensures.directory)

pub returns-in-Err-clause-answer : goal.returns-in-Err-clause-answer
returns-in-Err-clause-answer c = rw c.in-Err.is
    (refl)

pub returns-in-Err-clause-pool : goal.returns-in-Err-clause-pool
returns-in-Err-clause-pool c = rw c.in-Err.is
    (refl)

pub returns-in-Err-clause-directory : goal.returns-in-Err-clause-directory
returns-in-Err-clause-directory c = rw c.in-Err.is
    (refl)
