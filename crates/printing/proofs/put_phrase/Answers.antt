use Rattle.printing.proofs.Writing.{phrase_does}
use Rattle.printing.proofs.put_phrase.Goals as goal

pub returns : goal.returns
returns c = phrase_does _ _ _ _ _ _ _ _ c.put_text-after.ensures c.put_decimal.ensures
