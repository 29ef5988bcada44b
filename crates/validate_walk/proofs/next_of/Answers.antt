use Rattle.validate_walk.proofs.next_of.Goals as goal

pub returns : goal.returns
returns c = cc
