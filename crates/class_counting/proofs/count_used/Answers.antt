use Rattle.class_counting.proofs.Words.{used-counted}
use Rattle.std.proofs.Common.{rules}
use Rattle.class_counting.proofs.count_used.Goals as goal

pub returns : goal.returns
returns c = search (rules, used-counted)
