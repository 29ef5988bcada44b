-- What is written is the printout of the whole image.
use Rattle.std.proofs.Common.{rules}
use Rattle.report.specs.Report.{printout}
use Rattle.pool_report.proofs.Printed.{past}
use Rattle.pool_report.proofs.report.Goals as goal

pub returns : goal.returns
returns g c = c.answer.ensures printout (λ s out n left k. search rules) (λ xs ys h. past xs ys h)
