-- What the answer of a list says (SPEC 4.1): the number of blocks given back, or the number of the free that fails and its place.
use Rattle.std.specs.Prelude.{ℕ, Result, Ok, Err}
use Rattle.answers.specs.Outcome.{number_of, Outcome, granted}
use Rattle.free_all.specs.declared.Failed.{Failed}

abbrev pub of_free_all : Result ℕ Failed → Outcome
of_free_all (Ok n) = granted n
of_free_all (Err x) = record { number = number_of x.refusal; value = x.place }
