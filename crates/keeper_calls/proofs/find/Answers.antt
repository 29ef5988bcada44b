use mathlib.Core.Path.{sym, ap, ◌∙◌}
use Rattle.answers.specs.Outcome.{refused}
use Rattle.answers.proofs.Results.{passed_on}
use Rattle.keeper_bytes.specs.Requests.{Left}
use Rattle.keeper_calls.specs.Held.{of_find}
use Rattle.keeper_calls.proofs.Served.{ready-both, find-unsound, find_looked}
use Rattle.keeper_calls.proofs.find.Goals as goal

pub returns-in_err-both_sound : goal.returns-in_err-both_sound
returns-in_err-both_sound c =
    let u = c.in_err-both_sound.ensures.unsound in
    ap of_find (passed_on _ c.from_residual.ensures.1) ∙ ap refused u.1 ∙ sym (ap (λ (l : Left). l.outcome) (find-unsound _ _ _ _ u.0))

pub returns : goal.returns
returns c = c.look_up.ensures ∙ find_looked _ _ _ _ (ready-both _ _ _ c.in_ok-both_sound.ensures.sound)
