use mathlib.Core.Path.{refl, sym, ◌∙◌}
use borrow.Author.Tests.{lt-ltb, le-ltb}
use Rattle.base.proofs.AllBelow.{pick_yes, pick_no}
use Rattle.keeper_calls.specs.Mirror.{slot_in, place_in}
use Rattle.keeper_calls.proofs.place_for.Goals as goal

pub returns-then-i-directory : goal.returns-then-i-directory
unfolding slot_in place_in
returns-then-i-directory c =
    let found = c.slot-i.ensures in
    record { some = (found ∙ sym (pick_yes _ _ _ (lt-ltb _ _ (rw found at c.if-i-directory.true))), c.if-i-directory.true); full = tt }

pub returns-then-empty-directory : goal.returns-then-empty-directory
unfolding slot_in place_in
returns-then-empty-directory c =
    let placed = c.first_empty-empty.ensures ∙ sym (pick_no _ _ _ (le-ltb _ _ (rw c.slot-i.ensures at c.if-i-directory.false))) in
    record { some = (placed, c.if-empty-directory.true); full = tt }

pub returns : goal.returns
unfolding slot_in place_in
returns c =
    let placed = c.first_empty-empty.ensures ∙ sym (pick_no _ _ _ (le-ltb _ _ (rw c.slot-i.ensures at c.if-i-directory.false))) in
    record { some = tt; full = (rw placed at c.if-empty-directory.false, refl) }
