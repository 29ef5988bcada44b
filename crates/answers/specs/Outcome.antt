-- What a call's answer says (SPEC 4.1): the refusal's number, 0 where the call is granted, and the value.
use Rattle.std.specs.Prelude.{ℕ, Result, Ok, Err}
use Rattle.answers.specs.declared.Offset.{Offset}
use Rattle.answers.specs.declared.Refusal.{Refusal}
use Rattle.answers.specs.declared.Refusal.TheVariants.{TooShort, TooLong, NotSound, NoRoom, Outside, NotTaken, NotAStart, Unreadable, ScriptTooLong, NothingAsked, AnswersTooShort, WrongLength, BeyondMending, OtherBlocks, OutOfRange, TableTooShort, NoPlace, NotHeld}

abbrev pub number_of : Refusal → ℕ
number_of TooShort = 1
number_of TooLong = 2
number_of NotSound = 3
number_of NoRoom = 4
number_of Outside = 5
number_of NotTaken = 6
number_of NotAStart = 7
number_of Unreadable = 8
number_of ScriptTooLong = 9
number_of NothingAsked = 10
number_of AnswersTooShort = 11
number_of WrongLength = 12
number_of BeyondMending = 13
number_of OtherBlocks = 14
number_of OutOfRange = 15
number_of TableTooShort = 16
number_of NoPlace = 17
number_of NotHeld = 18

pub record Outcome : Type 0 where
  pub number : ℕ
  pub value : ℕ

abbrev pub granted : ℕ → Outcome
granted v = record { number = 0; value = v }

abbrev pub refused : Refusal → Outcome
refused r = record { number = number_of r; value = 0 }

abbrev pub of_format : Result ℕ Refusal → Outcome
of_format (Ok n) = granted n
of_format (Err r) = refused r

abbrev pub of_alloc : Result Offset Refusal → Outcome
of_alloc (Ok off) = granted off.0
of_alloc (Err r) = refused r

abbrev pub of_free : Result ℕ Refusal → Outcome
of_free (Ok n) = granted n
of_free (Err r) = refused r

abbrev pub of_batch : Result (Unit {0}) Refusal → Outcome
of_batch (Ok _) = granted 0
of_batch (Err r) = refused r
