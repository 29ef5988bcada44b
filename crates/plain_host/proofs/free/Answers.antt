use Rattle.std.proofs.Common.{arith}
use Rattle.plain_host.proofs.Loan.{loan_served}
use Rattle.plain_host.proofs.free.Goals as goal

pub returns : goal.returns
returns c = loan_served c.args.h _ _ _ c.free-a.result _ _ (omega arith) c.free-a.ensures c.reply_with.ensures
