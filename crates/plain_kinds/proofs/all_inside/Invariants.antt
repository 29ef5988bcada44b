use Rattle.std.proofs.Common.{◌≡◌, ◌+◌, true}
use Rattle.base.specs.Tests.{all_below}
use Rattle.plain_rules.specs.Rules.{is_inside}
use Rattle.plain_kinds.proofs.all_inside.Given as goal

abbrev pub invariant-loop-i : goal.invariant-loop-i
invariant-loop-i l = all_below (λ j. is_inside l.pages (l.p + 1 + j)) l.i ≡ true
