use mathlib.Core.Path.{ap, ◌∙◌}
use Rattle.std.specs.Prelude.{Err}
use Rattle.answers.specs.declared.Refusal.{Refusal}
use Rattle.answers.proofs.Results.{passed_on}
use Rattle.free_all.specs.Outcome.{of_free_all}
use Rattle.free_all.proofs.Whole.{is-unsound}
use Rattle.free_all.proofs.free_all.Goals as goal

pub returns-in_err-pages : goal.returns-in_err-pages
returns-in_err-pages c =
    let u = c.in_err-pages.ensures.unsound in
    let all = is-unsound c.args.w c.args.pool.now c.args.offsets.now u.0 in
    record {
      answer = ap of_free_all (passed_on _ c.from_residual.ensures.1) ∙ ap (λ (r : Refusal). of_free_all (Err (record { place = 0; refusal = r }))) u.1 ∙ all.0;
      slice = all.1;
    }

pub on_sound-requires : goal.on_sound-requires
on_sound-requires c = c.in_ok-pages.ensures.sound
