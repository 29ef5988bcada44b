use mathlib.Core.Path.{refl, sym, ◌∙◌}
use Rattle.base.proofs.Tests.{pick_on, pick-off}
use Rattle.base.proofs.AllBelow.{each_of}
use Rattle.validate_runs.specs.Mirror.{taken_whole}
use Rattle.validate_runs.proofs.Whole.{begins-says}
use borrow.Author.Rules.{rules}
use Rattle.validate_runs.proofs.taken_whole.Goals as goal

pub taken_rest-requires : goal.taken_rest-requires
taken_rest-requires c = let t = each_of _ (sym c.all.ensures ∙ c.if-all.true) in let a = begins-says c.args.w c.args.pool.now _ _ _ (sym c.begins_run-begins.ensures ∙ t.0) in (search rules, rw c.unpack_links-l.ensures a.2, rw c.unpack_links-l.ensures a.3)

pub returns-then-all : goal.returns-then-all
unfolding taken_whole
returns-then-all c = let u = c.unpack_links-l.ensures in pick_on _ _ _ _ (rw (c.begins_run-begins.ensures, u) at c.all.ensures) c.if-all.true (rw u at c.taken_rest.ensures)

pub returns-else-all : goal.returns-else-all
unfolding taken_whole
returns-else-all c = pick-off _ _ _ _ (rw (c.begins_run-begins.ensures, c.unpack_links-l.ensures) at c.all.ensures) c.if-all.false refl
