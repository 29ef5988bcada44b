use Rattle.rules.specs.Rules.{counts_fit}
use Rattle.rules.specs.Bytes.{fields_of, image_of}
use Rattle.validate_totals.proofs.Totals.{used-is, total-is}
use Rattle.validate_counts.proofs.Product.{total-fits}
use Rattle.validate_counts.proofs.class_counts.Goals as goal

pub overflow_mul-total : goal.overflow_mul-total
overflow_mul-total c = record { fits = total-fits _ _ _ c.middle.ensures.bound c.total_count.ensures }

pub returns : goal.returns
unfolding counts_fit fields_of image_of
returns c = rw (used-is (fields_of c.args.w c.args.pool.now) c.args.n c.args.t.now c.requires.0.most c.requires.0.counted c.args.c c.requires.1, total-is (fields_of c.args.w c.args.pool.now) c.args.n c.args.t.now c.requires.0.most c.requires.0.counted c.args.c c.requires.1) (rw (c.total_count.ensures, c.middle.ensures.answer, c.low-used.ensures, c.get_class-r.ensures) at c.both.ensures)
