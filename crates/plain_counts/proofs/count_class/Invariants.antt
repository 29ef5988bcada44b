use Rattle.std.proofs.Common.{◌≡◌, ◌≤◌}
use Rattle.base.specs.Count.{count}
use Rattle.plain_rules.specs.Counts.{class_page}
use Rattle.plain_counts.proofs.count_class.Given as goal

abbrev pub invariant-loop-p : goal.invariant-loop-p
invariant-loop-p l = (l.k ≡ count (class_page l.pages l.c) l.p) × (l.k ≤ l.p)
