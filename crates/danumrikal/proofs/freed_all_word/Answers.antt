use native.Mathlib.Omega.{arith}
use Rattle.danumrikal.proofs.freed_all_word.Goals as goal

pub returns-in-Ok : goal.returns-in-Ok
returns-in-Ok c = rw c.in-Ok.is (omega arith)

pub returns-in-Err : goal.returns-in-Err
returns-in-Err c = rw c.in-Err.is c.failed_word.ensures
