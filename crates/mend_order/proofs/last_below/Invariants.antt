use mathlib.Core.Path.{◌≡◌}
use Rattle.rules.specs.Bytes.{fields_of}
use Rattle.validate_walk.specs.Mirror.{belongs}
use Rattle.mending.specs.Mirror.{last_below}
use Rattle.mend_order.proofs.last_below.Given as goal

abbrev pub invariant-loop-at : goal.invariant-loop-at
invariant-loop-at l = last_below (belongs (fields_of l.w l.pool) l.n l.list) l.p ≡ last_below (belongs (fields_of l.w l.pool) l.n l.list) l.at
