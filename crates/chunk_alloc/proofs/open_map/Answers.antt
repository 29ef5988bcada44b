use Rattle.chunks.specs.Mirror.{new_map_at}
use Rattle.chunk_alloc.proofs.open_map.Goals as goal

pub returns : goal.returns
unfolding new_map_at
returns c = rw (c.own_count.ensures.answer, c.map_bytes.ensures.answer, c.map_base.ensures) at c.write_map_at.ensures
