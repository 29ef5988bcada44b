use Rattle.list_heads.proofs.change_first.Goals as goal

pub returns : goal.returns
returns c = rw (c.first_changed.ensures, c.get_word-v.ensures) at c.put_word.ensures
