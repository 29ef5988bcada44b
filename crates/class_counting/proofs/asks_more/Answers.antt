use mathlib.Core.Path.{refl}
use Rattle.class_counting.proofs.Words.{asks_carry, asks_added}
use Rattle.class_counting.proofs.asks_more.Goals as goal

pub returns-then-x-v : goal.returns-then-x-v
returns-then-x-v c = asks_carry _ c.ranges.v.fits _ refl c.if-x-v.true

pub returns-else-x-v : goal.returns-else-x-v
returns-else-x-v c = asks_added _ c.ranges.v.fits _ refl c.if-x-v.false
