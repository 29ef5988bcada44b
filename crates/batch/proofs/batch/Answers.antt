use mathlib.Core.Path.{sym, ap, ◌∙◌}
use native.Mathlib.Omega.{arith}
use Rattle.answers.specs.Outcome.{refused, of_batch}
use Rattle.answers.proofs.Results.{passed_on}
use Rattle.sound_pools.proofs.Validated.{whole}
use Rattle.batch.proofs.Whole.{is-short, is-unsound, is-done}
use Rattle.batch.proofs.batch.Goals as goal

pub returns-then-answers-requests : goal.returns-then-answers-requests
returns-then-answers-requests c =
    let a = c.args in
    let R = is-short a.w a.pool.now a.requests.now a.answers.now c.if-answers-requests.true in
    record { answer = sym R.outcome; pool = sym R.pool; answers = sym R.places }

pub returns-in_err-pages : goal.returns-in_err-pages
returns-in_err-pages c =
    let a = c.args in
    let u = c.in_err-pages.ensures.unsound in
    let R = is-unsound a.w a.pool.now a.requests.now a.answers.now (omega arith) u.0 in
    record { answer = ap of_batch (passed_on _ c.from_residual.ensures.1) ∙ ap refused u.1 ∙ sym R.outcome; pool = sym R.pool; answers = sym R.places }

pub serve_all-requires : goal.serve_all-requires
serve_all-requires c = (whole c.in_ok-pages.ensures.sound, omega arith)

pub returns : goal.returns
returns c =
    let a = c.args in
    let all = is-done a.w a.pool.now a.requests.now a.answers.now (omega arith) c.in_ok-pages.ensures.sound _ _ c.serve_all.ensures.pool c.serve_all.ensures.answers in
    record { answer = all.0; pool = all.1.0; answers = all.1.1 }
