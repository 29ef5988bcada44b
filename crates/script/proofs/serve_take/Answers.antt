use borrow.Author.Rules.{rules}
use Rattle.script.proofs.Serving.{take-served}
use Rattle.script.proofs.serve_take.Goals as goal

pub returns : goal.returns
returns c = take-served _ _ _ _ _ _ _ _ c.alloc.ensures.answer c.put_allocated.ensures c.alloc.ensures.slice
