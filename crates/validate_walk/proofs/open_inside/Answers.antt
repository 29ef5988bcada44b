use Rattle.base.proofs.Tests.{pick_on, pick-off}
use mathlib.Core.Path.{refl}
use Rattle.validate_walk.proofs.open_inside.Goals as goal

pub returns-then-both : goal.returns-then-both
returns-then-both c = pick_on _ _ _ _ (rw c.links_of-l.ensures at c.both.ensures) c.if-both.true c.not_full.ensures

pub returns-else-both : goal.returns-else-both
returns-else-both c = pick-off _ _ _ _ (rw c.links_of-l.ensures at c.both.ensures) c.if-both.false refl
