use Rattle.printing.proofs.Writing.{pair_does}
use Rattle.printing.proofs.put_pair.Goals as goal

pub returns : goal.returns
returns c = pair_does _ _ _ _ _ _ _ _ _ _ c.put_phrase-after.ensures c.put_line.ensures
