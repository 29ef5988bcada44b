use Rattle.list_heads.proofs.first_run.Goals as goal

pub returns : goal.returns
returns c = rw c.get_header-h.ensures
