use mathlib.Core.Path.{ap, ◌∙◌}
use Rattle.free_all_list.specs.Mirror.{completion_of}
use Rattle.free_all.specs.Outcome.{of_free_all}
use Rattle.std.specs.Prelude.{Err}
use Rattle.free_all.proofs.Whole.{done-few, done_met, stopped-few, stopped_met}
use Rattle.free_all.proofs.finish.Goals as goal

pub returns-in-Ok-clause-answer : goal.returns-in-Ok-clause-answer
returns-in-Ok-clause-answer c = c.free_whole.ensures.answer ∙ (done_met c.requires.0 _ c.args.t c.requires.1 (ap completion_of c.in-Ok.is)).0

pub returns-in-Ok-clause-slice : goal.returns-in-Ok-clause-slice
returns-in-Ok-clause-slice c = c.free_whole.ensures.slice ∙ (done_met c.requires.0 _ c.args.t c.requires.1 (ap completion_of c.in-Ok.is)).1

pub returns-in-Err-clause-answer : goal.returns-in-Err-clause-answer
returns-in-Err-clause-answer c = ap (λ f. of_free_all (Err f)) c.failed_at.ensures ∙ (stopped_met c.requires.0 _ c.args.t c.requires.1 _ _ (ap completion_of c.in-Err.is)).0

pub returns-in-Err-clause-slice : goal.returns-in-Err-clause-slice
returns-in-Err-clause-slice c = (stopped_met c.requires.0 _ c.args.t c.requires.1 _ _ (ap completion_of c.in-Err.is)).1

pub free_whole-requires : goal.free_whole-requires
free_whole-requires c = (c.requires.0, done-few c.requires.0 _ c.args.t c.requires.1 (ap completion_of c.in-Ok.is))

pub failed_at-requires : goal.failed_at-requires
failed_at-requires c = stopped-few c.requires.0 _ c.args.t c.requires.1 _ _ (ap completion_of c.in-Err.is)
