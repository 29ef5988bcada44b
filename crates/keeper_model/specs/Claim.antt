-- The statements of the record keeper, each citing definitions only.
use Rattle.std.specs.Prelude.{◌≡◌, ◌≢◌, ◌↔◌, true, false, List, ℕ, ◌+◌, ◌≤◌, ◌<◌, length}
use Rattle.model.specs.WellFormed.{WellFormed}
use Rattle.model.specs.Calls.{Alloc, no_room, step}
use Rattle.model.specs.Live.{Block, offset, extent, Live}
use Rattle.keeper_model.specs.Store.{Store, has_empty}
use Rattle.keeper_model.specs.Directory.{DirectoryOk, Sound, directory_ok}
use Rattle.keeper_model.specs.Requests.{Request, Put, refused, not_sound, refuse, with_state, put, find, remove, ask}
use Rattle.keeper_model.specs.Turns.{Map, Turn, keeper, bytes, Full, Fair, played, heard, World, run_from, AllFair, begin}
use Rattle.keeper_model.specs.Ruling.{find_ruling, remove_ruling, put_ruling, Agrees}
use Rattle.keeper_model.specs.Examples.{ExamplesHold}

-- the test of a directory says what the plain form says
abbrev pub TestSays : Type 0
TestSays = (w : Store) → WellFormed w.state →
    (directory_ok w.state w.places w.entry ≡ true) ↔ DirectoryOk w.state.page w.places w.entry

-- ---- one turn

abbrev pub TurnsKeep : Type 0
TurnsKeep = (w : Store) → Sound w → (t : Turn) → Fair w t → Sound (played w t)

abbrev pub MapKept : Type 0
MapKept = (w : Store) → Sound w → (m : Map) → Agrees m w → (t : Turn) → Fair w t → Agrees (heard w m t) (played w t)

-- bytes that change off the live blocks only, as the pool's own bitmaps do, are a fair turn
abbrev pub BlocksFair : Type 0
BlocksFair = (w : Store) → Sound w → (b : ℕ → ℕ) →
    ((e : Block) → Live w.state.page e → (j : ℕ) → offset e ≤ j → j < offset e + extent e → b j ≡ w.bytes j) → Fair w (bytes b)

-- a refused request changes nothing, but for 4, which leaves the pool as alloc leaves it
pub record Refusals (w : Store) : Type 0 where
  pub not_sound_lem : directory_ok w.state w.places w.entry ≡ false → (q : Request) → ask w q ≡ refuse w not_sound
  pub unchanged : (q : Request) (k : ℕ) → (ask w q).result ≡ refused k → k ≢ no_room → (ask w q).after ≡ w
  pub no_room_lem : (key : ℕ) (r : List ℕ) → (ask w (Put key r)).result ≡ refused no_room →
      (ask w (Put key r)).after ≡ with_state w (step w.state (Alloc (length r))).after

-- a live block of another's: no request frees it or changes a byte of it
pub record LeftAlone (w : Store) (q : Request) (e : Block) : Type 0 where
  pub live : Live (ask w q).after.state.page e
  pub same_bytes : (j : ℕ) → offset e ≤ j → j < offset e + extent e → (ask w q).after.bytes j ≡ w.bytes j

abbrev pub OthersBytes : Type 0
OthersBytes = (w : Store) → Sound w → (q : Request) → Fair w (keeper q) → (e : Block) → Live w.state.page e →
    ((i : ℕ) → Full w i → (w.entry i).off ≢ offset e) → LeftAlone w q e

-- ---- any list of turns

-- the store and the map after them, and the next request: 3 never comes
pub record Faithful (x : World) : Type 0 where
  pub sound : Sound x.store
  pub agrees : Agrees x.map x.store
  pub puts : (key : ℕ) (r : List ℕ) →
      (put x.store key r).result ≡ put_ruling (x.map key) (has_empty x.store) (step x.store.state (Alloc (length r))).answer (length r)
  pub finds : (key : ℕ) → (find x.store key).result ≡ find_ruling (x.map key)
  pub removes : (key : ℕ) → (remove x.store key).result ≡ remove_ruling (x.map key)

abbrev pub AsAMap : Type 0
AsAMap = (P : ℕ) → 1 ≤ P → (b : ℕ → ℕ) (n : ℕ) → 1 ≤ n → n ≤ 64 → (ts : List Turn) → AllFair (begin P b n) ts → Faithful (run_from (begin P b n) ts)

-- the same from any sound store with the map that it shows
abbrev pub AsAMapFrom : Type 0
AsAMapFrom = (x : World) → Sound x.store → Agrees x.map x.store → (ts : List Turn) → AllFair x ts → Faithful (run_from x ts)

-- ---- all of them

pub record Claims : Type 0 where
  pub test_says : TestSays
  pub turns-keep : TurnsKeep
  pub map-kept : MapKept
  pub blocks_fair : BlocksFair
  pub refusals : (w : Store) → WellFormed w.state → Refusals w
  pub others-bytes : OthersBytes
  pub as_a_map : AsAMap
  pub as_a_map-from : AsAMapFrom
  pub examples_hold : ExamplesHold
