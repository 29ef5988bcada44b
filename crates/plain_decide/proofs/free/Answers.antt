use Rattle.base.proofs.Tests.{picks}
use Rattle.plain_decide.proofs.Known.{tables-known, tallied-known}
use Rattle.plain_decide.proofs.Deciding.{free_decides}
use Rattle.plain_decide.proofs.free.Goals as goal

pub returns-then-chunks-lt6144 : goal.returns-then-chunks-lt6144
returns-then-chunks-lt6144 c = let g = c.well_formed.0.1.1 in free_decides _ _ _ _ _ _ (tables-known c.args.s g.0.1.0.1 g.1.0.1.0.1 g.1.1.0.1.0.1) (tallied-known c.args.s _ g.1.1.0.1.1) (search picks) (search picks)

pub returns-else-chunks-lt6144 : goal.returns-else-chunks-lt6144
returns-else-chunks-lt6144 c = let g = c.well_formed.0.1.1 in free_decides _ _ _ _ _ _ (tables-known c.args.s g.0.1.0.1 g.1.0.1.0.1 g.1.1.0.1.0.1) (tallied-known c.args.s _ g.1.1.0.1.1) (search picks) (search picks)
