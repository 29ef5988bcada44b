use mathlib.Core.Path.{sym, ap, ◌∙◌, subst}
use native.Mathlib.Omega.{arith}
use Rattle.answers.specs.Outcome.{of_free}
use Rattle.answers.proofs.Results.{passed_on}
use Rattle.free_sound.specs.Mirror.{Classed, found_outcome, found_slice, free_outcome, free_slice}
use Rattle.free_sound.proofs.Classed.{found_classed}
use Rattle.free_sound.proofs.free_sound.Goals as goal

pub give-requires : goal.give-requires
give-requires c = (subst (Classed c.args.pages) (sym c.in_ok-found.ensures) (found_classed _ _ _ _ (omega (arith, c.ranges.pages))), c.requires)

pub returns-clause-answer : goal.returns-clause-answer
unfolding free_outcome
returns-clause-answer c = c.give.ensures.answer ∙ ap (found_outcome c.args.w c.args.pool.now c.args.pages) c.in_ok-found.ensures

pub returns-clause-slice : goal.returns-clause-slice
unfolding free_slice
returns-clause-slice c = c.give.ensures.slice ∙ ap (found_slice c.args.w c.args.pool.now c.args.pages) c.in_ok-found.ensures

pub returns-in_err-found-clause-answer : goal.returns-in_err-found-clause-answer
unfolding free_outcome
returns-in_err-found-clause-answer c =
    ap of_free (passed_on _ c.from_residual.ensures.1) ∙ ap (found_outcome c.args.w c.args.pool.now c.args.pages) c.in_err-found.ensures

pub returns-in_err-found-clause-slice : goal.returns-in_err-found-clause-slice
unfolding free_slice
returns-in_err-found-clause-slice c = ap (found_slice c.args.w c.args.pool.now c.args.pages) c.in_err-found.ensures
