use borrow.Author.Rules.{rules}
use mathlib.Core.Path.{ap}
use Rattle.answers.specs.Outcome.{of_format}
use Rattle.script_replies.specs.Replies.{pool_word, format_line}
use Rattle.script_replies.proofs.Spoken.{prints_granted, prints_refused}
use Rattle.script_replies.proofs.put_formatted.Goals as goal

pub returns-in-Ok : goal.returns-in-Ok
unfolding format_line
returns-in-Ok c = prints_granted _ _ _ _ pool_word _ _ (ap of_format c.in-Ok.is) c.put_line.ensures

pub returns-in-Err : goal.returns-in-Err
unfolding format_line
returns-in-Err c = prints_refused _ _ _ _ pool_word _ _ (ap of_format c.in-Err.is) c.put_refusal.ensures
