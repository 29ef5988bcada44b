-- What a find's answer says (SPEC 18): the refusal's number, or where the record lies, as a value.
use Rattle.std.specs.Prelude.{◌+◌, ◌*◌, Result, Ok, Err}
use Rattle.answers.specs.Outcome.{Outcome, granted, refused}
use Rattle.answers.specs.declared.Refusal.{Refusal}
use Rattle.keeper_calls.specs.declared.RecordAt.{RecordAt}

abbrev pub of_find : Result RecordAt Refusal → Outcome
of_find (Ok r) = granted (r.len * 4294967296 + r.offset.0)
of_find (Err r) = refused r
