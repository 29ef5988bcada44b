use mathlib.Core.Path.{refl}
use Rattle.plain_script.proofs.serve_unreadable.Goals as goal

pub returns : goal.returns
returns c = (refl, c.put_refusal.ensures)
