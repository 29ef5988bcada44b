use Rattle.class_counting.proofs.chunk_back.Goals as goal

pub returns : goal.returns
returns c = rw c.saturating_sub.ensures at c.used_to.ensures
