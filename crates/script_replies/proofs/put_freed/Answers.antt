use borrow.Author.Rules.{rules}
use mathlib.Core.Path.{ap}
use Rattle.answers.specs.Outcome.{of_free}
use Rattle.script_replies.specs.Replies.{back_word, free_line}
use Rattle.script_replies.proofs.Spoken.{prints_granted, prints_refused}
use Rattle.script_replies.proofs.put_freed.Goals as goal

pub returns-in-Ok : goal.returns-in-Ok
unfolding free_line
returns-in-Ok c = prints_granted _ _ _ _ back_word _ _ (ap of_free c.in-Ok.is) c.put_line.ensures

pub returns-in-Err : goal.returns-in-Err
unfolding free_line
returns-in-Err c = prints_refused _ _ _ _ back_word _ _ (ap of_free c.in-Err.is) c.put_refusal.ensures
