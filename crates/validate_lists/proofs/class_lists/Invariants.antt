use mathlib.Core.Path.{◌≡◌}
use mathlib.Core.Bool.{true}
use Rattle.base.specs.Tests.{all_below}
use Rattle.rules.specs.Rules.{class_list}
use Rattle.rules.specs.Bytes.{fields_of}
use Rattle.validate_lists.proofs.class_lists.Given as goal

abbrev pub invariant-loop-c : goal.invariant-loop-c
invariant-loop-c l = all_below (class_list (fields_of l.w l.pool) l.n) l.c ≡ true
