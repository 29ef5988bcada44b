use Rattle.std.proofs.Common.{◌≡◌, true}
use Rattle.base.specs.Tests.{all_below}
use Rattle.plain_rules.specs.Mirror.{kept_page_ok}
use Rattle.plain_validate.proofs.pages_ok.Given as goal

abbrev pub invariant-loop-p : goal.invariant-loop-p
invariant-loop-p l = all_below (kept_page_ok l.pages l.ready l.bytes) l.p ≡ true
