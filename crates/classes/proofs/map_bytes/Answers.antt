use native.Mathlib.Omega.{arith}
use borrow.Author.Rules.{rules}
use Rattle.classes.proofs.Numbers.{bytes_8, bytes_16, bytes_32, bytes_past}
use Rattle.classes.proofs.map_bytes.Goals as goal

pub returns-in-0-clause-answer : goal.returns-in-0-clause-answer
returns-in-0-clause-answer c = bytes_8 _ (search rules)

pub returns-in-0-clause-bound : goal.returns-in-0-clause-bound
returns-in-0-clause-bound c = omega arith

pub returns-in-1-clause-answer : goal.returns-in-1-clause-answer
returns-in-1-clause-answer c = bytes_16 _ (search rules)

pub returns-in-1-clause-bound : goal.returns-in-1-clause-bound
returns-in-1-clause-bound c = omega arith

pub returns-in-2-clause-answer : goal.returns-in-2-clause-answer
returns-in-2-clause-answer c = bytes_32 _ (search rules)

pub returns-in-2-clause-bound : goal.returns-in-2-clause-bound
returns-in-2-clause-bound c = omega arith

pub returns-in_default-clause-answer : goal.returns-in_default-clause-answer
returns-in_default-clause-answer c = bytes_past _ (search rules)

pub returns-in_default-clause-bound : goal.returns-in_default-clause-bound
returns-in_default-clause-bound c = omega arith
