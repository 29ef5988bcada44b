use Rattle.class_lists.proofs.put_back.Goals as goal

pub returns : goal.returns
returns c = rw c.put_before.ensures at c.count_back_first.ensures
