use mathlib.Core.Path.{ap, ◌∙◌}
use Rattle.answers.specs.Outcome.{refused, of_free}
use Rattle.answers.proofs.Results.{passed_on}
use Rattle.keeper_calls.proofs.Served.{told, remove-unsound}
use Rattle.keeper_calls.proofs.remove.Goals as goal

pub returns-in_err-pages : goal.returns-in_err-pages
returns-in_err-pages c =
    let a = c.args in
    let u = c.in_err-pages.ensures.unsound in
    let all = told (remove-unsound a.w a.pool.now a.directory.now a.key u.0) in
    record { answer = ap of_free (passed_on _ c.from_residual.ensures.1) ∙ ap refused u.1 ∙ all.0; pool = all.1.0; directory = all.1.1 }

pub remove_sound-requires : goal.remove_sound-requires
remove_sound-requires c = c.in_ok-pages.ensures.sound
