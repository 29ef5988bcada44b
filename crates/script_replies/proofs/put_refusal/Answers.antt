use borrow.Author.Rules.{rules}
use Rattle.script_replies.proofs.Spoken.{prints_refusal}
use Rattle.script_replies.proofs.put_refusal.Goals as goal

pub returns : goal.returns
returns c = prints_refusal _ _ _ _ _ _ c.from.ensures c.put_line.ensures
