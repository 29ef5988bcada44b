use Rattle.records.specs.Class.{class_at}
use Rattle.record_class.proofs.get_class.Goals as goal

pub returns : goal.returns
unfolding class_at
returns c = rw (c.get_word-2.ensures, c.place-2.ensures, c.get_word.ensures, c.place.ensures) at c.unpack_class.ensures
