use Rattle.class_counting.proofs.Words.{used-put}
use Rattle.std.proofs.Common.{rules}
use Rattle.class_counting.proofs.put_used.Goals as goal

pub returns : goal.returns
returns c = search (rules, used-put)
