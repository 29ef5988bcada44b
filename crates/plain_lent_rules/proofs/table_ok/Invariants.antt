use Rattle.std.proofs.Common.{◌≡◌, true, take}
use Rattle.base.specs.Tests.{all_below}
use Rattle.plain_rules.specs.Mirror.{entry_ok}
use Rattle.plain_lent_rules.proofs.table_ok.Given as goal

-- the places before p pass
abbrev pub invariant-loop-p : goal.invariant-loop-p
invariant-loop-p l = all_below (entry_ok l.pages (take 12 l.runs)) l.p ≡ true
