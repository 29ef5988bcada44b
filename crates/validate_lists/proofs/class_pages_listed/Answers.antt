use Rattle.rules.specs.Rules.{rule4}
use Rattle.rules.specs.Bytes.{fields_of}
use Rattle.validate_totals.proofs.Totals.{alone_is}
use Rattle.validate_lists.proofs.class_pages_listed.Goals as goal

pub returns : goal.returns
unfolding rule4
returns c = rw (← alone_is (fields_of c.args.w c.args.pool.now) c.args.n c.args.t.now c.requires.most c.requires.counted)
    (rw (c.class_lists-linked.ensures, c.middle-strays.ensures.answer) at c.both.ensures)
