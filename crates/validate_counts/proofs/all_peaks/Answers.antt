use Rattle.branchless.proofs.Loops.{alls}
use Rattle.validate_counts.proofs.all_peaks.Goals as goal

pub loop-c-init : goal.loop-c-init
loop-c-init c = search alls

pub returns-then-not-peak_fits : goal.returns-then-not-peak_fits
returns-then-not-peak_fits c = search alls

pub loop-c-preserved : goal.loop-c-preserved
loop-c-preserved c = search alls

pub returns : goal.returns
returns c = search alls
