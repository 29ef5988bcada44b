use Rattle.std.proofs.Common.{◌≡◌, false, get_or}
use Rattle.base.specs.Search.{any}
use Rattle.plain.specs.Plain.{free_entry}
use Rattle.plain_rules.specs.Rules.{run_reaches}
use Rattle.plain_kinds.proofs.inside_ok.Given as goal

abbrev pub invariant-loop-q : goal.invariant-loop-q
invariant-loop-q l = any (λ x. run_reaches l.p x (get_or l.pages x free_entry)) l.q ≡ false
