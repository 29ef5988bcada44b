use mathlib.Core.Path.{sym, ap, ◌∙◌, subst}
use native.Mathlib.Omega.{arith}
use Rattle.free_sound.specs.Mirror.{Classed, found_outcome, free_outcome}
use Rattle.free_sound.proofs.Classed.{found_classed}
use Rattle.sound_pools.proofs.Validated.{whole}
use Rattle.keeper_room.proofs.Room.{room_is}
use Rattle.keeper_room.proofs.room_at.Goals as goal

pub locate-requires : goal.locate-requires
locate-requires c = whole c.requires

pub room_of-requires : goal.room_of-requires
room_of-requires c = subst (Classed c.args.pages) (sym c.in-Ok.ensures) (found_classed _ _ _ _ (omega (arith, c.ranges.pages)))

pub returns-in-Ok : goal.returns-in-Ok
unfolding free_outcome
returns-in-Ok c = let a = c.args in c.room_of.ensures ∙ ap (λ f. (found_outcome a.w a.pool.now a.pages f).value) c.in-Ok.ensures ∙ room_is c.requires _

pub returns-in-Err : goal.returns-in-Err
unfolding free_outcome
returns-in-Err c = let a = c.args in ap (λ f. (found_outcome a.w a.pool.now a.pages f).value) c.in-Err.ensures ∙ room_is c.requires _
