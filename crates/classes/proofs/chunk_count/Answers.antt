use Rattle.classes.proofs.Numbers.{chunks_past}
use borrow.Author.Rules.{rules}
use Rattle.classes.proofs.chunk_count.Goals as goal

pub returns-else-c-lt9 : goal.returns-else-c-lt9
returns-else-c-lt9 c = chunks_past _ (search rules)
