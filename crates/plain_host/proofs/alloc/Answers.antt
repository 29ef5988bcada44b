use Rattle.std.proofs.Common.{arith}
use Rattle.plain_host.proofs.Loan.{loan_served}
use Rattle.plain_host.proofs.alloc.Goals as goal

pub returns : goal.returns
returns c = loan_served c.args.h _ _ _ c.alloc-a.result _ _ (omega arith) c.alloc-a.ensures c.reply_with.ensures
