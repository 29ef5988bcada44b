use mathlib.Core.Path.{◌≡◌}
use mathlib.Core.Bool.{true}
use Rattle.base.specs.Tests.{all_below}
use Rattle.rules.specs.Rules.{kind_from}
use Rattle.rules.specs.Bytes.{fields_of}
use Rattle.validate_shape.proofs.all_kind.Given as goal

abbrev pub invariant-loop-i : goal.invariant-loop-i
invariant-loop-i l = all_below (kind_from (fields_of l.w l.pool) l.start l.want) l.i ≡ true
