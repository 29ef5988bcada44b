use borrow.Author.Rules.{rules}
use Rattle.script.proofs.Serving.{give_served}
use Rattle.script.proofs.serve_give.Goals as goal

pub returns : goal.returns
returns c = give_served _ _ _ _ _ _ _ _ c.free.ensures.answer c.put_freed.ensures c.free.ensures.slice
