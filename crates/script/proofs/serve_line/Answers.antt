use mathlib.Core.Path.{refl}
use Rattle.script.proofs.Serving.{none-served, served_as}
use Rattle.script.proofs.serve_line.Goals as goal

pub returns-in-Some : goal.returns-in-Some
returns-in-Some c = served_as _ _ _ _ _ _ _ _ c.in-Some.ensures c.serve_request.ensures

pub returns-in-None : goal.returns-in-None
returns-in-None c = served_as _ _ _ _ _ _ _ _ c.in-None.ensures (none-served _ _ _ _ _ _ c.put_refusal.ensures refl)
