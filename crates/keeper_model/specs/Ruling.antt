-- What a request answers, read on what a plain map holds for its key.
use Rattle.std.specs.Prelude.{◌≡◌, Bool, true, false, cond, ◌&&◌, not, List, ℕ, eqb, ltb}
use Rattle.std.proofs.Math.Option.{Option, none, some}
use Rattle.model.specs.Calls.{Answer, at, freed, no, no_room}
use Rattle.keeper_model.specs.Store.{Store}
use Rattle.keeper_model.specs.Requests.{Result, done, found, refused, empty_record, too_long, no_place, not_held}
use Rattle.keeper_model.specs.Turns.{Map, lookup}

-- the store shows the map
abbrev pub Agrees : (m : Map) (w : Store) → Type 0
Agrees m w = (key : ℕ) → lookup w key ≡ m key

unfoldable pub find_ruling : Option (List ℕ) → Result
find_ruling none = refused not_held
find_ruling (some r) = found r

unfoldable pub remove_ruling : Option (List ℕ) → Result
remove_ruling none = refused not_held
remove_ruling (some r) = done

-- the pool's answer to alloc: granted, or 4
abbrev pub granted : Answer → Result
granted (at off) = done
granted (freed n) = refused no_room
granted (no k) = refused no_room

abbrev pub is_new : Option (List ℕ) → Bool
is_new none = true
is_new (some r) = false

-- a put of n bytes: `room` says that the directory has an empty place, a what the pool answers
unfoldable pub put_ruling : Option (List ℕ) → Bool → Answer → ℕ → Result
put_ruling held room a n =
    cond (eqb n 0) (refused empty_record)
    (cond (ltb 65535 n) (refused too_long)
    (cond (is_new held && not room) (refused no_place)
    (granted a)))
