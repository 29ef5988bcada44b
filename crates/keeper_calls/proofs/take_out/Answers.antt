use mathlib.Core.Path.{refl}
use Rattle.sound_pools.proofs.Validated.{whole}
use Rattle.keeper_calls.proofs.Served.{given_met}
use borrow.Author.Rules.{rules}
use Rattle.keeper_calls.proofs.take_out.Goals as goal

pub free_sound-requires : goal.free_sound-requires
free_sound-requires c = whole c.requires.0

pub returns-clause-answer : goal.returns-clause-answer
returns-clause-answer c = let M = given_met c.requires.0 _ (rw c.off_of-off.ensures at c.free_sound.ensures.answer) (rw c.off_of-off.ensures at c.free_sound.ensures.slice) in
    M.0

pub returns-clause-pool : goal.returns-clause-pool
returns-clause-pool c = let M = given_met c.requires.0 _ (rw c.off_of-off.ensures at c.free_sound.ensures.answer) (rw c.off_of-off.ensures at c.free_sound.ensures.slice) in
    M.1

pub returns-clause-directory : goal.returns-clause-directory
returns-clause-directory c = refl
