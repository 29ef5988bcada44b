use Rattle.free_all_try.specs.Mirror.{chunk_tried}
use Rattle.base.proofs.Tests.{picks}
use Rattle.free_all_try.proofs.try_chunk.Goals as goal

pub returns-then-is_marked : goal.returns-then-is_marked
unfolding chunk_tried
returns-then-is_marked c = search picks

pub returns-else-is_marked : goal.returns-else-is_marked
unfolding chunk_tried
returns-else-is_marked c = search picks
