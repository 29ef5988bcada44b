use Rattle.rules.specs.Rules.{rule6}
use Rattle.rules.specs.Bytes.{fields_of, image_of}
use Rattle.validate_totals.proofs.Totals.{idle-is}
use Rattle.validate_counts.proofs.counts_fit.Goals as goal

pub returns : goal.returns
unfolding rule6 fields_of image_of
returns c = rw (idle-is (fields_of c.args.w c.args.pool.now) c.args.n c.args.t.now c.requires.most c.requires.counted) (rw (c.all_counts-fit.ensures, c.low-free.ensures, c.get_header-h.ensures) at c.both.ensures)
