use Rattle.list_heads.proofs.first_page.Goals as goal

pub returns : goal.returns
returns c = rw c.get_class-r.ensures
