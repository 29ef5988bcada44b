use Rattle.std.proofs.Common.{◌≡◌, ◌≤◌}
use Rattle.base.specs.Count.{count}
use Rattle.plain_rules.specs.Counts.{free_page}
use Rattle.plain_counts.proofs.count_free.Given as goal

abbrev pub invariant-loop-p : goal.invariant-loop-p
invariant-loop-p l = (l.k ≡ count (free_page l.pages) l.p) × (l.k ≤ l.p)
