use Rattle.report.proofs.Whole.{whole-short, whole_long}
use Rattle.report.proofs.report.Goals as goal

pub put_judged-requires : goal.put_judged-requires
put_judged-requires c = (c.broken_rule.ensures, c.if-image-lt-TOO_LONG.true)

pub returns-then-image-lt-TOO_LONG : goal.returns-then-image-lt-TOO_LONG
returns-then-image-lt-TOO_LONG c = whole-short _ _ _ _ c.if-image-lt-TOO_LONG.true _ c.broken_rule.ensures c.put_judged.ensures

pub returns : goal.returns
returns c = whole_long _ _ _ _ c.if-image-lt-TOO_LONG.false c.put_refusal.ensures
