use mathlib.Core.Path.{ap, ◌∙◌}
use Rattle.answers.specs.Outcome.{refused, of_alloc}
use Rattle.answers.proofs.Results.{passed_on}
use Rattle.keeper_calls.proofs.Served.{told, put-unsound}
use Rattle.keeper_calls.proofs.put.Goals as goal

pub returns-in_err-pages : goal.returns-in_err-pages
returns-in_err-pages c =
    let a = c.args in
    let u = c.in_err-pages.ensures.unsound in
    let all = told (put-unsound a.w a.pool.now a.directory.now a.key a.bytes.now u.0) in
    record { answer = ap of_alloc (passed_on _ c.from_residual.ensures.1) ∙ ap refused u.1 ∙ all.0; pool = all.1.0; directory = all.1.1 }

pub put_sound-requires : goal.put_sound-requires
put_sound-requires c = c.in_ok-pages.ensures.sound
