use mathlib.Core.Path.{◌≡◌}
use Prim.Native.Nat.{◌-◌}
use Rattle.records.specs.Layout.{no_page}
use Rattle.rules.specs.Fields.{next, prev}
use Rattle.rules.specs.Rules.{linked}
use Rattle.rules.specs.Bytes.{fields_of}
use Rattle.validate_walk.specs.Mirror.{belongs}
use Rattle.validate_walk.proofs.follow.Given as goal

abbrev pub invariant-loop : goal.invariant-loop
invariant-loop l = linked (belongs (fields_of l.w l.pool) l.n l.list) (next (fields_of l.w l.pool)) (prev (fields_of l.w l.pool)) l.count no_page l.initial.at.0 ≡ linked (belongs (fields_of l.w l.pool) l.n l.list) (next (fields_of l.w l.pool)) (prev (fields_of l.w l.pool)) (l.count - l.counter) l.before.0 l.at.0
