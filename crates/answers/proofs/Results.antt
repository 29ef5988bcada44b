-- What a `?` passes on: the refusal of the call that it stands behind.
use Rattle.std.specs.Prelude.{Result, Ok, Err, IsErrAnd}
use mathlib.Core.Path.{◌≡◌, ap}

pub passed_on : {A E : Type 0} (r : Result A E) {e : E} → IsErrAnd r (λ y. y ≡ e) → r ≡ Err e
passed_on (Ok x) h = absurd h
passed_on (Err y) h = ap Err h
