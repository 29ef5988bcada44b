-- What is written is the printout of the whole script.
use Rattle.std.proofs.Common.{rules}
use Rattle.script.specs.Script.{printout}
use Rattle.plain_main.proofs.Printed.{past}
use Rattle.plain_main.proofs.serve.Goals as goal

pub returns : goal.returns
returns g c = c.answer.ensures printout (λ s out n left k. search rules) (λ xs ys h. past xs ys h)
