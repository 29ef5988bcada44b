use mathlib.Core.Path.{ap, ◌∙◌}
use native.Mathlib.Omega.{arith}
use borrow.Author.Rules.{rules}
use Rattle.serve.specs.Mirror.{allocated_in}
use Rattle.serve.proofs.Serving.{alloc-word}
use Rattle.serve.proofs.Back.{alloc-back}
use Rattle.serve.proofs.alloc_sound.Goals as goal

pub returns-clause-answer : goal.returns-clause-answer
returns-clause-answer c = let done = c.serve_one-x in
    let a = c.args in
    let asked = alloc-word a.w a.pages a.pool.now a.size (omega arith) in
    c.allocated_in.ensures ∙ ap allocated_in (done.ensures.answer ∙ asked.0) ∙ alloc-back a.w a.pool.now a.pages (omega arith) a.size

pub returns-clause-slice : goal.returns-clause-slice
returns-clause-slice c = let done = c.serve_one-x in
    let a = c.args in
    let asked = alloc-word a.w a.pages a.pool.now a.size (omega arith) in
    done.ensures.slice ∙ asked.1
