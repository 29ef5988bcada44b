use mathlib.Core.Path.{sym, ap}
use Rattle.std.specs.Prelude.{Some}
use Rattle.script_lines.specs.declared.Request.{Request}
use Rattle.script_lines.specs.Lines.{call_of}
use Rattle.plain_script.proofs.Serving.{replied_as}
use Rattle.plain_script.proofs.serve_request.Goals as goal

pub returns-in-Take : goal.returns-in-Take
returns-in-Take c = replied_as _ _ _ _ _ _ _ _ _ (ap (λ (r : Request). call_of (Some r)) (sym c.in-Take.is)) c.serve_take.ensures

pub returns-in-Give : goal.returns-in-Give
returns-in-Give c = replied_as _ _ _ _ _ _ _ _ _ (ap (λ (r : Request). call_of (Some r)) (sym c.in-Give.is)) c.serve_give.ensures
