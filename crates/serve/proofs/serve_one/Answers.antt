use borrow.Author.Rules.{rules}
use Rattle.serve.proofs.Order.{one_served}
use Rattle.serve.proofs.Serving.{in_order}
use Rattle.serve.proofs.serve_one.Goals as goal

pub returns : goal.returns
returns c =
    let all = let done = c.serve_all in one_served (in_order _ _) _ _ _ _ _ done.ensures.pool done.ensures.answers in
    record { answer = all.0; slice = all.1 }
