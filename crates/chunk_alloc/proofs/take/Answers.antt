use Rattle.chunk_alloc.proofs.take.Goals as goal

pub returns : goal.returns
returns c = rw c.count_used.ensures at c.put_mark_in.ensures
