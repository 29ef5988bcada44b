use Rattle.free_all_mark.proofs.put_chunk.Goals as goal

pub returns : goal.returns
returns c = cc
