use Rattle.map_search.proofs.Leading.{first_word}
use Rattle.map_search.proofs.lowest_paged.Goals as goal

pub returns-then-i-lt64 : goal.returns-then-i-lt64
returns-then-i-lt64 c = first_word _ _ _ _ c.lowest_in-i.ensures c.if-i-lt64.true c.requires.1
