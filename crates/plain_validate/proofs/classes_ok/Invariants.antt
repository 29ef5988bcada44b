use Rattle.std.proofs.Common.{◌≡◌, true, get_or}
use Rattle.base.specs.Tests.{all_below}
use Rattle.plain.specs.Plain.{no_counts}
use Rattle.plain_rules.specs.Rules.{counts_ok}
use Rattle.plain_validate.proofs.classes_ok.Given as goal

abbrev pub invariant-loop-c : goal.invariant-loop-c
invariant-loop-c l = all_below (λ j. counts_ok l.pages l.bytes j (get_or l.x-items j no_counts)) l.c ≡ true
