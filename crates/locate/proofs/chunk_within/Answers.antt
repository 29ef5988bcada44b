use Rattle.locate.specs.Mirror.{offset_found}
use Rattle.locate.proofs.chunk_within.Goals as goal

pub returns : goal.returns
unfolding offset_found
returns c = rw c.chunk_size-size.ensures.0 at c.chunk_sized.ensures
