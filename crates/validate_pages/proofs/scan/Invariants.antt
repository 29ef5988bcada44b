use Rattle.std.proofs.Common.{◌≡◌, ◌-◌, ◌<◌, ◌≤◌, true}
use Rattle.base.specs.Tests.{all_below}
use Rattle.rules.specs.Rules.{rule2_at}
use Rattle.rules.specs.Bytes.{fields_of}
use Rattle.validate_runs.specs.Mirror.{Border}
use Rattle.validate_pages.proofs.Pass.{Passed}
use Rattle.validate_pages.proofs.scan.Given as goal

abbrev pub invariant-loop-p : goal.invariant-loop-p
invariant-loop-p l = (l.p ≤ l.n) × (all_below (rule2_at (fields_of l.w l.pool) l.n) l.p ≡ true) × Passed (fields_of l.w l.pool) l.n l.p l.t × (l.p < l.n → Border (fields_of l.w l.pool) l.n l.p)

abbrev pub decreases-loop-p : goal.decreases-loop-p
decreases-loop-p l = l.n - l.p
