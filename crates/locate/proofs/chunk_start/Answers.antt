use Rattle.locate.specs.Mirror.{start_found}
use Rattle.locate.proofs.chunk_start.Goals as goal

pub returns : goal.returns
unfolding start_found
returns c = rw c.class_own-own.ensures.answer at c.chunk_past.ensures
