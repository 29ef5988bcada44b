use Rattle.class_peaks.proofs.Lifted.{lifted-tally}
use borrow.Author.Rules.{rules}
use Rattle.class_peaks.proofs.lift_peak.Goals as goal

pub returns : goal.returns
returns c = search (rules, lifted-tally)
