-- Put, find and remove, as SPEC 18 tells them.
use Rattle.std.specs.Prelude.{cond, List, ℕ, eqb, leb, ltb, length}
use Rattle.base.specs.Functions.{upd}
use Rattle.answers.specs.Outcome.{number_of}
use Rattle.answers.specs.declared.Refusal.TheVariants.{NotSound, NothingAsked, WrongLength, NoPlace, NotHeld}
use Rattle.model.specs.State.{State}
use Rattle.model.specs.Calls.{Alloc, Free, Answer, at, freed, no, no_room, step}
use Rattle.keeper_model.specs.Store.{Entry, blank, Store, copied, is_empty, slot, first_empty, record_in}
use Rattle.keeper_model.specs.Directory.{directory_ok}

pub data Request : Type 0 where
  Put : ℕ → List ℕ → Request  -- a key and a record's bytes
  Find : ℕ → Request
  Remove : ℕ → Request

pub data Result : Type 0 where
  done : Result  -- put and remove
  found : List ℕ → Result  -- find: the stored bytes
  refused : ℕ → Result

pub record Outcome : Type 0 where
  pub result : Result
  pub after : Store

-- ---- refusals; 4 is the pool's own

unfoldable pub not_sound : ℕ
not_sound = number_of NotSound

unfoldable pub empty_record : ℕ
empty_record = number_of NothingAsked

unfoldable pub too_long : ℕ
too_long = number_of WrongLength

unfoldable pub no_place : ℕ
no_place = number_of NoPlace

unfoldable pub not_held : ℕ
not_held = number_of NotHeld

abbrev pub refuse : Store → ℕ → Outcome
refuse w k = record { result = refused k; after = w }

-- the records are not sound, or the request goes on
abbrev pub if_sound : Store → Outcome → Outcome
if_sound w go = cond (directory_ok w.state w.places w.entry) go (refuse w not_sound)

abbrev pub with_state : Store → State → Store
with_state w s = record { state = s; bytes = w.bytes; places = w.places; entry = w.entry }

abbrev pub freed_at : Store → ℕ → Store
freed_at w off = with_state w (step w.state (Free off)).after

-- ---- put

-- the key's own place, or the first empty one; the number of places where there is neither
unfoldable pub place_for : Store → ℕ → ℕ
place_for w key = cond (ltb (slot w key) w.places) (slot w key) (first_empty w)

-- the record copied into the block at off, its word changed; s is the pool with that block
abbrev pub stored : Store → State → ℕ → ℕ → List ℕ → ℕ → Store
stored w s i key r off = record {
  state = s;
  bytes = copied w.bytes off r;
  places = w.places;
  entry = upd w.entry i (record { key = key; len = length r; off = off });
}

-- the block of the entry that stood there, if one did, is freed
unfoldable pub replaced : Entry → Store → Store
replaced e w = cond (is_empty e) w (freed_at w e.off)

-- in place i, after the pool answered so and became s
unfoldable pub put_in : Store → ℕ → ℕ → List ℕ → Answer → State → Outcome
put_in w i key r (at off) s = record { result = done; after = replaced (w.entry i) (stored w s i key r off) }
put_in w i key r (freed n) s = refuse (with_state w s) no_room
put_in w i key r (no k) s = refuse (with_state w s) k

unfoldable pub put : Store → ℕ → List ℕ → Outcome
put w key r =
    if_sound w
    (cond (eqb (length r) 0) (refuse w empty_record)
    (cond (ltb 65535 (length r)) (refuse w too_long)
    (cond (leb w.places (place_for w key)) (refuse w no_place)
    (put_in w (place_for w key) key r (step w.state (Alloc (length r))).answer (step w.state (Alloc (length r))).after))))

-- ---- find and remove

unfoldable pub find : Store → ℕ → Outcome
find w key =
    if_sound w
    (cond (ltb (slot w key) w.places) (record { result = found (record_in w (slot w key)); after = w })
    (refuse w not_held))

-- the block of place i freed, the place emptied
abbrev pub removed : Store → ℕ → Store
removed w i = record {
  state = (step w.state (Free (w.entry i).off)).after;
  bytes = w.bytes;
  places = w.places;
  entry = upd w.entry i blank;
}

unfoldable pub remove : Store → ℕ → Outcome
remove w key =
    if_sound w
    (cond (ltb (slot w key) w.places) (record { result = done; after = removed w (slot w key) })
    (refuse w not_held))

-- ---- a request

unfoldable pub ask : Store → Request → Outcome
ask w (Put key r) = put w key r
ask w (Find key) = find w key
ask w (Remove key) = remove w key
