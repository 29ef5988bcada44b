use borrow.Author.Rules.{rules}
use mathlib.Core.Path.{ap}
use Rattle.answers.specs.Outcome.{of_alloc}
use Rattle.script_replies.specs.Replies.{at_word, alloc_line}
use Rattle.script_replies.proofs.Spoken.{prints_granted, prints_refused}
use Rattle.script_replies.proofs.put_allocated.Goals as goal

pub returns-in-Ok : goal.returns-in-Ok
unfolding alloc_line
returns-in-Ok c = prints_granted _ _ _ _ at_word _ _ (ap of_alloc c.in-Ok.is) c.put_line.ensures

pub returns-in-Err : goal.returns-in-Err
unfolding alloc_line
returns-in-Err c = prints_refused _ _ _ _ at_word _ _ (ap of_alloc c.in-Err.is) c.put_refusal.ensures
