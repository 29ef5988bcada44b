use Rattle.validate_walk.proofs.leads_back.Goals as goal

pub returns : goal.returns
returns c = rw c.links_of-l.ensures
