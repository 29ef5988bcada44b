use Rattle.free_all_try.proofs.is_marked.Goals as goal

pub returns : goal.returns
returns c = rw c.map_base.ensures at c.get_mark.ensures
