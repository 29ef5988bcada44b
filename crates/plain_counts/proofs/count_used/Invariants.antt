use Rattle.std.proofs.Common.{◌≡◌, ◌≤◌, ◌*◌}
use Rattle.base.specs.Count.{sum}
use Rattle.plain_rules.specs.Counts.{used_on_page}
use Rattle.plain_counts.proofs.count_used.Given as goal

abbrev pub invariant-loop-p : goal.invariant-loop-p
invariant-loop-p l = (l.k ≡ sum (used_on_page l.pages l.bytes l.c) l.p) × (l.k ≤ 512 * l.p)
