use mathlib.Core.Path.{◌≡◌}
use lib.ListN.{take}
use Rattle.free_all_list.specs.Mirror.{list_back}
use Rattle.free_all_list.proofs.take_back.Given as goal

abbrev pub invariant-loop-i : goal.invariant-loop-i
invariant-loop-i l = list_back l.w l.pool l.pages (take l.i l.offsets) ≡ list_back l.w l.initial.pool l.pages (take l.n l.offsets)
