use mathlib.Core.Path.{refl}
use native.Mathlib.Omega.{arith}
use borrow.Author.Rules.{rules}
use Rattle.free_sound.proofs.give_run.Goals as goal

pub returns-clause-answer : goal.returns-clause-answer
returns-clause-answer c = refl

pub returns-clause-slice : goal.returns-clause-slice
returns-clause-slice c = c.release.ensures
