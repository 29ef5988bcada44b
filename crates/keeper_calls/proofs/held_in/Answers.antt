use mathlib.Core.Path.{refl}
use Rattle.keeper_calls.specs.Mirror.{slot_in}
use Rattle.keeper_calls.proofs.held_in.Goals as goal

pub returns-then-i-directory : goal.returns-then-i-directory
unfolding slot_in
returns-then-i-directory c = record { held = (c.slot-i.ensures, c.if-i-directory.true); unheld = tt }

pub returns : goal.returns
unfolding slot_in
returns c = record { held = tt; unheld = (rw c.slot-i.ensures at c.if-i-directory.false, refl) }
