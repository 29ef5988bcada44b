use mathlib.Core.Path.{ap, ◌∙◌}
use Rattle.answers.specs.Outcome.{refused, of_free}
use Rattle.answers.proofs.Results.{passed_on}
use Rattle.keeper_calls.proofs.Served.{told, ready-both, remove-none, remove_held}
use Rattle.keeper_calls.proofs.remove_sound.Goals as goal

pub returns-in_err-i : goal.returns-in_err-i
returns-in_err-i c =
    let u = c.in_err-i.ensures.unheld in
    let all = told (remove-none c.args.w c.args.pool.now c.args.directory.now c.args.key (ready-both _ _ _ c.requires) u.0) in
    record { answer = ap of_free (passed_on _ c.from_residual.ensures.1) ∙ ap refused u.1 ∙ all.0; pool = all.1.0; directory = all.1.1 }

pub take_out-requires : goal.take_out-requires
take_out-requires c = (c.requires.validated, c.in_ok-i.ensures.held.1)

pub returns-clause-answer : goal.returns-clause-answer
returns-clause-answer c =
    let (e, h) = c.in_ok-i.ensures.held in
    let q = told (remove_held c.args.w c.args.pool.now c.args.directory.now c.args.key (ready-both _ _ _ c.requires) (rw e at h)) in
    (rw e at c.take_out.ensures.answer) ∙ q.0

pub returns-clause-pool : goal.returns-clause-pool
returns-clause-pool c =
    let (e, h) = c.in_ok-i.ensures.held in
    let q = told (remove_held c.args.w c.args.pool.now c.args.directory.now c.args.key (ready-both _ _ _ c.requires) (rw e at h)) in
    (rw e at c.take_out.ensures.pool) ∙ q.1.0

pub returns-clause-directory : goal.returns-clause-directory
returns-clause-directory c =
    let (e, h) = c.in_ok-i.ensures.held in
    let q = told (remove_held c.args.w c.args.pool.now c.args.directory.now c.args.key (ready-both _ _ _ c.requires) (rw e at h)) in
    (rw e at c.take_out.ensures.directory) ∙ q.1.1
