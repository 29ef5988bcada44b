use Rattle.rules.specs.Bytes.{fields_of}
use Rattle.validate_totals.proofs.Totals.{rule5-is}
use Rattle.validate_counts.proofs.in_use.Goals as goal

pub returns : goal.returns
returns c = rw c.low.ensures (rule5-is (fields_of c.args.w c.args.pool.now) c.args.n c.args.t.now c.requires.most c.requires.counted)
