use Rattle.std.proofs.Common.{◌≡◌, ◌++◌, length, take, drop}
use Rattle.plain.specs.Arrays.{remade}
use Rattle.plain_rules.specs.Counts.{class_recounted}
use Rattle.plain_counts.proofs.recount_all.Given as goal

abbrev pub invariant-loop-c : goal.invariant-loop-c
invariant-loop-c l =
    (length l.x-items ≡ 9)
    × (take l.c l.x-items ++ remade (class_recounted l.pages l.bytes) l.c (drop l.c l.x-items) ≡ remade (class_recounted l.pages l.bytes) 0 l.initial.x-items)
