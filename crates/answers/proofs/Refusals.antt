-- A refusal has a number, and a granted answer has none: its number is 0.
use mathlib.Core.Path.{◌≡◌, refl}
use mathlib.Core.Logic.{◌≢◌}
use mathlib.Core.Bool.{false}
use lib.Dec.{eqb}
use Rattle.answers.specs.Outcome.{number_of}
use Rattle.answers.specs.declared.Refusal.{Refusal}
use Rattle.answers.specs.declared.Refusal.TheVariants.{TooShort, TooLong, NotSound, NoRoom, Outside, NotTaken, NotAStart, Unreadable, ScriptTooLong, NothingAsked, AnswersTooShort, WrongLength, BeyondMending, OtherBlocks, OutOfRange, TableTooShort, NoPlace, NotHeld}

pub number_counts : (r : Refusal) → eqb (number_of r) 0 ≡ false
number_counts TooShort = refl
number_counts TooLong = refl
number_counts NotSound = refl
number_counts NoRoom = refl
number_counts Outside = refl
number_counts NotTaken = refl
number_counts NotAStart = refl
number_counts Unreadable = refl
number_counts ScriptTooLong = refl
number_counts NothingAsked = refl
number_counts AnswersTooShort = refl
number_counts WrongLength = refl
number_counts BeyondMending = refl
number_counts OtherBlocks = refl
number_counts OutOfRange = refl
number_counts TableTooShort = refl
number_counts NoPlace = refl
number_counts NotHeld = refl

-- 7 is the number of one refusal alone
pub only-seven : (r : Refusal) → r ≢ NotAStart → eqb (number_of r) 7 ≡ false
only-seven TooShort n = refl
only-seven TooLong n = refl
only-seven NotSound n = refl
only-seven NoRoom n = refl
only-seven Outside n = refl
only-seven NotTaken n = refl
only-seven NotAStart n = absurd (n refl)
only-seven Unreadable n = refl
only-seven ScriptTooLong n = refl
only-seven NothingAsked n = refl
only-seven AnswersTooShort n = refl
only-seven WrongLength n = refl
only-seven BeyondMending n = refl
only-seven OtherBlocks n = refl
only-seven OutOfRange n = refl
only-seven TableTooShort n = refl
only-seven NoPlace n = refl
only-seven NotHeld n = refl
