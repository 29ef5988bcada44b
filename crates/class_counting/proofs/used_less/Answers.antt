use Rattle.class_counting.proofs.Words.{used_borrows}
use Rattle.class_counting.proofs.used_less.Goals as goal

pub returns : goal.returns
returns c = used_borrows _ c.ranges.v.fits
