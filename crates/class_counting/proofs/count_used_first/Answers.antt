use Rattle.std.proofs.Common.{arith}
use Rattle.class_counting.proofs.Words.{used-first-counted}
use Rattle.class_counting.proofs.count_used_first.Goals as goal

pub returns : goal.returns
returns c =
    used-first-counted _ _ _ _ _ c.place-k.ensures c.place-l.ensures _ _ c.get_word_in-counts.ensures c.get_word_in-asks.ensures
    _ (omega arith) _ c.first_changed.ensures _ c.put_used.ensures
