use Rattle.branchless.proofs.Loops.{all-fails}
use Rattle.plain.specs.Plain.{no_counts}
use Rattle.plain_validate.proofs.classes_ok.Goals as goal

pub returns-then-not-counts_ok : goal.returns-then-not-counts_ok
unfolding no_counts
returns-then-not-counts_ok c = all-fails _ _ _ _ c.loop-c-test.true c.counts_ok.ensures c.if-not-counts_ok.true
