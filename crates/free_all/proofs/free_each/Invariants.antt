use Rattle.sound_pools.specs.Sound.{Validated}
use Rattle.free_all.proofs.Each.{Left}
use Rattle.free_all.proofs.free_each.Given as goal

abbrev pub invariant-loop-x : goal.invariant-loop-x
invariant-loop-x l = Validated l.w l.pool l.pages × Left l.w l.initial.pool l.offsets l.x-index l.pool
