use Rattle.plain_script.proofs.Serving.{none-replied, replied_as}
use Rattle.plain_script.proofs.serve_line.Goals as goal

pub returns-in-Some : goal.returns-in-Some
returns-in-Some c = replied_as _ _ _ _ _ _ _ _ _ c.in-Some.ensures c.serve_request.ensures

pub returns-in-None : goal.returns-in-None
returns-in-None c = replied_as _ _ _ _ _ _ _ _ _ c.in-None.ensures (none-replied _ _ _ _ _ _ c.requires.1 c.serve_unreadable.ensures)
