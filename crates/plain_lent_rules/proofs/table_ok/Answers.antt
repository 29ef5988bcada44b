use Rattle.plain_lent_rules.proofs.Judged.{tried-next, tried-fails}
use Rattle.plain_lent_rules.proofs.table_ok.Goals as goal

pub loop-p-preserved : goal.loop-p-preserved
loop-p-preserved c = tried-next _ _ _ _ _ _ c.count_holding.ensures c.entry.ensures c.breaks_rule.ensures c.if-breaks_rule.false c.loop-p.invariant

pub returns-then-breaks_rule : goal.returns-then-breaks_rule
returns-then-breaks_rule c = tried-fails _ _ _ _ _ _ c.count_holding.ensures c.entry.ensures c.breaks_rule.ensures c.loop-p-test.true c.if-breaks_rule.true
