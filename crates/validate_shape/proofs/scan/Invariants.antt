use mathlib.Core.Path.{◌≡◌}
use mathlib.Core.Bool.{true}
use Rattle.base.specs.Tests.{all_below}
use Rattle.rules.specs.Rules.{shape_at}
use Rattle.rules.specs.Bytes.{fields_of}
use Rattle.validate_pages.proofs.Pass.{Passed}
use Rattle.validate_shape.proofs.scan.Given as goal

abbrev pub invariant-loop-p : goal.invariant-loop-p
invariant-loop-p l = (all_below (shape_at (fields_of l.w l.pool) l.n) l.p ≡ true) × Passed (fields_of l.w l.pool) l.n l.p l.t
