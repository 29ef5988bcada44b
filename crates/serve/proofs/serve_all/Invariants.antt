use mathlib.Core.Path.{◌≡◌}
use mathlib.Core.List.{◌++◌}
use lib.ListN.{take, drop}
use Rattle.serve.specs.Mirror.{served_words, served_all}
use Rattle.serve.proofs.serve_all.Given as goal

abbrev pub invariant-loop-i : goal.invariant-loop-i
invariant-loop-i l = (l.pool ≡ served_all l.w l.pages l.initial.pool (take l.i l.requests)) × (l.answers ≡ served_words l.w l.pages l.initial.pool (take l.i l.requests) ++ drop l.i l.initial.answers)
