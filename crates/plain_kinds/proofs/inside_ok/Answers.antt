use Rattle.std.proofs.Common.{arith}
use Rattle.plain_rules.specs.Rules.{inside_ok}
use Rattle.plain_kinds.proofs.Reaching.{any_hit, reaches_at}
use Rattle.plain_kinds.proofs.inside_ok.Goals as goal

pub returns-then-run_reaches : goal.returns-then-run_reaches
unfolding inside_ok
returns-then-run_reaches c = any_hit _ _ _ _ (omega arith) (reaches_at _ _ c.args.pages _ _ c.entry.ensures c.run_reaches.ensures) c.if-run_reaches.true
