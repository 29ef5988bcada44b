use Rattle.class_counting.proofs.count_first_back.Goals as goal

pub returns : goal.returns
returns c = rw (c.used_less.ensures, c.first_changed-first.ensures, c.get_word_in-v.ensures) at c.put_word_in.ensures
