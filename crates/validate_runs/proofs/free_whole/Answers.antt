use mathlib.Core.Path.{refl, sym, ◌∙◌}
use Rattle.base.proofs.Tests.{pick_on, pick-off}
use Rattle.validate_runs.specs.Mirror.{free_whole}
use Rattle.validate_runs.proofs.Whole.{begins-says}
use borrow.Author.Rules.{rules}
use Rattle.validate_runs.proofs.free_whole.Goals as goal

pub free_rest-requires : goal.free_rest-requires
free_rest-requires c = let a = begins-says c.args.w c.args.pool.now _ _ _ (sym c.begins_run.ensures ∙ c.if-begins_run.true) in (search rules, rw c.unpack_links-l.ensures a.3)

pub returns-then-begins_run : goal.returns-then-begins_run
unfolding free_whole
returns-then-begins_run c = pick_on _ _ _ _ c.begins_run.ensures c.if-begins_run.true (rw c.unpack_links-l.ensures at c.free_rest.ensures)

pub returns-else-begins_run : goal.returns-else-begins_run
unfolding free_whole
returns-else-begins_run c = pick-off _ _ _ _ c.begins_run.ensures c.if-begins_run.false refl
