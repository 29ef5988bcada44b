use mathlib.Core.Path.{sym, ◌∙◌}
use borrow.Author.Rules.{rules}
use Rattle.serve.proofs.Serving.{alloc-read, free-read, stray_read}
use Rattle.serve.proofs.serve.Goals as goal

pub returns-then-call-eq-ALLOC-clause-answer : goal.returns-then-call-eq-ALLOC-clause-answer
returns-then-call-eq-ALLOC-clause-answer c = let done = c.serve_alloc in
    let told = alloc-read _ _ _ _ c.if-call-eq-ALLOC.true in
    done.ensures.answer ∙ sym told.0

pub returns-then-call-eq-ALLOC-clause-slice : goal.returns-then-call-eq-ALLOC-clause-slice
returns-then-call-eq-ALLOC-clause-slice c = let done = c.serve_alloc in
    let told = alloc-read _ _ _ _ c.if-call-eq-ALLOC.true in
    done.ensures.slice ∙ sym told.1

pub returns-then-call-eq-FREE-clause-answer : goal.returns-then-call-eq-FREE-clause-answer
returns-then-call-eq-FREE-clause-answer c = let done = c.serve_free in
    let told = free-read _ _ _ _ c.if-call-eq-ALLOC.false c.if-call-eq-FREE.true in
    done.ensures.answer ∙ sym told.0

pub returns-then-call-eq-FREE-clause-slice : goal.returns-then-call-eq-FREE-clause-slice
returns-then-call-eq-FREE-clause-slice c = let done = c.serve_free in
    let told = free-read _ _ _ _ c.if-call-eq-ALLOC.false c.if-call-eq-FREE.true in
    done.ensures.slice ∙ sym told.1

pub returns-clause-answer : goal.returns-clause-answer
returns-clause-answer c = let told = stray_read _ _ _ _ c.if-call-eq-ALLOC.false c.if-call-eq-FREE.false in
    c.refusal_word.ensures ∙ sym told.0

pub returns-clause-slice : goal.returns-clause-slice
returns-clause-slice c = let told = stray_read _ _ _ _ c.if-call-eq-ALLOC.false c.if-call-eq-FREE.false in
    sym told.1
