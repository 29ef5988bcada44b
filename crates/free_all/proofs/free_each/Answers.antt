use mathlib.Core.Path.{refl}
use Rattle.sound_pools.proofs.Validated.{whole}
use Rattle.free_all.proofs.Each.{left_end, left-next}
use Rattle.free_all.proofs.free_each.Goals as goal

pub loop-x-init : goal.loop-x-init
loop-x-init c = (c.requires, refl)

pub free_sound-requires : goal.free_sound-requires
free_sound-requires c = whole c.loop-x.invariant.0

pub loop-x-preserved : goal.loop-x-preserved
loop-x-preserved c = let i = c.loop-x.invariant in
    left-next _ _ _ _ _ _ _ _ i.0 c.loop-x-test.true refl c.free_sound.ensures.slice i.1

pub returns : goal.returns
returns c = left_end _ _ _ _ _ c.loop-x-test.false c.loop-x.invariant.1
