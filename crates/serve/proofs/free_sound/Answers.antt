use mathlib.Core.Path.{ap, ◌∙◌}
use native.Mathlib.Omega.{arith}
use borrow.Author.Rules.{rules}
use Rattle.serve.specs.Mirror.{freed_in}
use Rattle.serve.proofs.Serving.{free_word}
use Rattle.serve.proofs.Back.{free_back}
use Rattle.serve.proofs.free_sound.Goals as goal

pub returns-clause-answer : goal.returns-clause-answer
returns-clause-answer c = let done = c.serve_one-x in
    let a = c.args in
    let asked = free_word a.w a.pages a.pool.now a.at.0 (omega arith) in
    c.freed_in.ensures ∙ ap freed_in (done.ensures.answer ∙ asked.0) ∙ free_back a.w a.pool.now a.pages a.at.0

pub returns-clause-slice : goal.returns-clause-slice
returns-clause-slice c = let done = c.serve_one-x in
    let a = c.args in
    let asked = free_word a.w a.pages a.pool.now a.at.0 (omega arith) in
    done.ensures.slice ∙ asked.1
