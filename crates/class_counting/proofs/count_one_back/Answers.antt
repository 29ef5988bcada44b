use Rattle.class_counting.proofs.count_one_back.Goals as goal

pub returns : goal.returns
returns c = rw (c.used_less.ensures, c.get_word_in-v.ensures) at c.put_word_in.ensures
