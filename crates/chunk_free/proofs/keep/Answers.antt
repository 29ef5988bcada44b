use Rattle.chunk_free.proofs.keep.Goals as goal

pub returns : goal.returns
returns c = rw c.count_returned.ensures at c.put_mark_in.ensures
