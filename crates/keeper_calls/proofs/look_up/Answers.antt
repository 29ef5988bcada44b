use mathlib.Core.Path.{ap, ◌∙◌}
use native.Mathlib.Omega.{arith}
use Rattle.answers.specs.Outcome.{refused}
use Rattle.answers.proofs.Results.{passed_on}
use Rattle.keeper_calls.specs.Held.{of_find}
use Rattle.keeper_calls.proofs.Served.{looked_none, looked_held}
use Rattle.keeper_calls.proofs.look_up.Goals as goal

pub returns-in_err-i : goal.returns-in_err-i
returns-in_err-i c =
    let u = c.in_err-i.ensures.unheld in
    ap of_find (passed_on _ c.from_residual.ensures.1) ∙ ap refused u.1 ∙ looked_none _ _ u.0

pub offset_bounds-directory-i : goal.offset_bounds-directory-i
offset_bounds-directory-i c = omega (arith, c.in_ok-i.ensures.held.1)

pub bounds-directory-i : goal.bounds-directory-i
bounds-directory-i c = c.in_ok-i.ensures.held.1

pub returns : goal.returns
returns c =
    let h = c.in_ok-i.ensures.held in
    rw h.0 at c.told_by.ensures ∙ looked_held _ _ (rw h.0 at h.1)
