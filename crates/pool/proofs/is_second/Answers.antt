use Rattle.pool.proofs.is_second.Goals as goal

pub returns : goal.returns
returns c = cc
