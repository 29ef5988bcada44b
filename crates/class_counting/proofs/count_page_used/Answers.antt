use Rattle.class_counting.proofs.Words.{page-counted}
use Rattle.std.proofs.Common.{rules}
use Rattle.class_counting.proofs.count_page_used.Goals as goal

pub returns : goal.returns
returns c = search (rules, page-counted)
