use Rattle.format.proofs.Laws.{short-outcome, short_slice, long-outcome, long_slice, fit-outcome, fit_slice}
use mathlib.Core.Path.{◌∙◌}
use native.Mathlib.Omega.{arith}
use Rattle.format.proofs.format.Goals as goal

pub returns-then-len-head-clause-answer : goal.returns-then-len-head-clause-answer
returns-then-len-head-clause-answer c = let a = c.args in let h = c.if-len-head.true in
    short-outcome a.w a.pool.now (omega arith)

pub returns-then-len-head-clause-slice : goal.returns-then-len-head-clause-slice
returns-then-len-head-clause-slice c = let a = c.args in let h = c.if-len-head.true in
    short_slice a.w a.pool.now (omega arith)

pub returns-then-head-len-clause-answer : goal.returns-then-head-len-clause-answer
returns-then-head-len-clause-answer c = let a = c.args in let h = c.if-len-head.false in let l = c.if-head-len.true in
    long-outcome a.w a.pool.now (omega arith) (omega arith)

pub returns-then-head-len-clause-slice : goal.returns-then-head-len-clause-slice
returns-then-head-len-clause-slice c = let a = c.args in let h = c.if-len-head.false in let l = c.if-head-len.true in
    long_slice a.w a.pool.now (omega arith) (omega arith)

pub returns-clause-answer : goal.returns-clause-answer
returns-clause-answer c = let a = c.args in
    fit-outcome a.w a.pool.now (omega arith) (omega arith)

pub returns-clause-slice : goal.returns-clause-slice
returns-clause-slice c = let a = c.args in
    c.write_records.ensures ∙ fit_slice a.w a.pool.now (omega arith) c.requires (omega arith)
