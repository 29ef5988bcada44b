use Rattle.report.proofs.Whole.{judged_none, judged_sound, judged_broken}
use Rattle.report.proofs.put_judged.Goals as goal

pub put_report-requires : goal.put_report-requires
put_report-requires c = (judged_none _ _ c.requires.0 c.if-rule-eq0.true, c.requires.1)

pub returns-then-rule-eq0 : goal.returns-then-rule-eq0
returns-then-rule-eq0 c = judged_sound _ _ _ _ _ c.if-rule-eq0.true c.put_report.ensures

pub returns : goal.returns
returns c = judged_broken _ _ _ _ _ c.if-rule-eq0.false c.put_line.ensures
