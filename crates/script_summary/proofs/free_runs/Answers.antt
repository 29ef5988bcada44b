use borrow.Author.Rules.{rules}
use Rattle.script_summary.proofs.Counting.{seen_none, seen_more, seen_few, seen_all}
use Rattle.script_summary.proofs.free_runs.Goals as goal

pub loop-p-init : goal.loop-p-init
loop-p-init c = seen_none _ _ _

pub overflow_add-runs : goal.overflow_add-runs
overflow_add-runs c = search (rules, seen_few _ _ _ _ _ (seen_more _ _ _ _ _ _ c.loop-p.invariant c.kind_at.ensures))

pub loop-p-preserved : goal.loop-p-preserved
loop-p-preserved c = seen_more _ _ _ _ _ _ c.loop-p.invariant c.kind_at.ensures

pub returns : goal.returns
returns c = seen_all _ _ _ _ _ c.requires.0 (search rules) (search rules) c.loop-p.invariant
