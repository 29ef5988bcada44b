use Rattle.free_all_list.proofs.Steps.{At}
use Rattle.free_all_list.proofs.try_list.Given as goal

abbrev pub invariant-loop-i : goal.invariant-loop-i
invariant-loop-i l = At l.w l.initial.pool l.pages l.offsets l.i l.pool
