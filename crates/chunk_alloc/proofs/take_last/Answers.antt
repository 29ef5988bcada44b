use Rattle.chunk_alloc.proofs.take_last.Goals as goal

pub returns : goal.returns
returns c = rw (c.count_used_first.ensures, c.set_aside-next.ensures.slice, c.set_aside-next.ensures.answer) at c.put_mark_in.ensures
