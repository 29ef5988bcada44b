use Rattle.mend.proofs.Steps.{peaks_deep, peaks_flat}
use Rattle.mend.proofs.write_peaks.Goals as goal

pub returns-then-w-gt2 : goal.returns-then-w-gt2
returns-then-w-gt2 c = peaks_deep c.args.w c.args.damaged.now c.args.n c.args.target.now _ c.if-w-gt2.true c.all_peaks.ensures

pub returns-else-w-gt2 : goal.returns-else-w-gt2
returns-else-w-gt2 c = peaks_flat c.args.w c.args.damaged.now c.args.n c.args.target.now c.if-w-gt2.false
