use Rattle.record_class.proofs.get_used.Goals as goal

pub returns : goal.returns
returns c = cc
