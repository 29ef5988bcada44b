use Rattle.records.specs.Class.{with_class}
use Rattle.record_class.proofs.put_class.Goals as goal

pub returns : goal.returns
unfolding with_class
returns c = rw (c.pack_tally.ensures, c.place-2.ensures, c.put_word.ensures, c.pack_counts.ensures, c.place.ensures) at c.put_word-2.ensures
