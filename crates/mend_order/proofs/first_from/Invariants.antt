use mathlib.Core.Path.{◌≡◌}
use Prim.Native.Nat.{◌+◌, ◌-◌}
use Rattle.rules.specs.Bytes.{fields_of}
use Rattle.validate_walk.specs.Mirror.{belongs}
use Rattle.mending.specs.Mirror.{first_from}
use Rattle.mend_order.proofs.first_from.Given as goal

abbrev pub invariant-loop-at : goal.invariant-loop-at
invariant-loop-at l = first_from (belongs (fields_of l.w l.pool) l.n l.list) l.a l.k ≡ first_from (belongs (fields_of l.w l.pool) l.n l.list) l.at (l.a + l.k - l.at)
