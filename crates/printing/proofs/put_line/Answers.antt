use mathlib.Core.Path.{refl}
use Rattle.printing.proofs.Writing.{line_does}
use Rattle.printing.proofs.put_line.Goals as goal

pub returns : goal.returns
returns c = line_does _ _ _ _ _ _ _ _ c.put_phrase-after.ensures c.put_byte.ensures refl
