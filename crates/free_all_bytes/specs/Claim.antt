-- The statements on the call, over the answers and slices of single frees.
use Rattle.std.specs.Prelude.{◌≡◌, ◌≢◌, ◌↔◌, List, [], ◌∷◌, ℕ, ◌*◌, ◌≤◌, ◌<◌, length, get_or, take}
use Rattle.model.specs.Calls.{Free}
use Rattle.rules.specs.Bytes.{pages_in, broken_rule, read}
use Rattle.demands.specs.Calls.{answered, after}
use Rattle.demands.specs.Shown.{shown_by}
use Rattle.sound_pools.specs.Sound.{Sound}
use Rattle.free_all_model.specs.FreeAll.{done, stopped, free_all}
use Rattle.free_all_model.specs.Claim.{Reordered}
use Rattle.free_all_bytes.specs.FreeAll.{free_all_answered, free_all_outcome, freed_each, free_all_after}

-- single frees in that order all succeed
abbrev pub AllGranted : ℕ → List ℕ → List ℕ → Type 0
AllGranted w s [] = Unit {0}
AllGranted w s (off ∷ offs) = ((answered w s (Free off)).number ≡ 0) × AllGranted w (after w s (Free off)) offs

-- the one at place k is the first that is refused, with number n
pub record FirstRefusal (w : ℕ) (s offs : List ℕ) (k n : ℕ) : Type 0 where
  pub place : k < length offs
  pub before : AllGranted w s (take k offs)
  pub some : n ≢ 0
  pub number : (answered w (freed_each w s (take k offs)) (Free (get_or offs k 0))).number ≡ n

-- on an unsound pool it answers 3 at place 0, and nothing changes
abbrev pub Unsound : Type 0
Unsound = (w : ℕ) (s offs : List ℕ) → broken_rule w s ≢ 0 → (free_all_answered w s offs ≡ stopped 0 3) × (free_all_after w s offs ≡ s)

pub record OnSound (w : ℕ) (s offs : List ℕ) : Type 0 where
  -- done exactly when single frees in that order all succeed, and then their slice
  pub done_when : (free_all_answered w s offs ≡ done) ↔ AllGranted w s offs
  pub done_slice : free_all_answered w s offs ≡ done → free_all_after w s offs ≡ freed_each w s offs
  -- otherwise the first refusal's place and number, and the slice as at entry
  pub stopped_when : (k n : ℕ) → (free_all_answered w s offs ≡ stopped k n) ↔ FirstRefusal w s offs k n
  pub stopped_slice : (k n : ℕ) → free_all_answered w s offs ≡ stopped k n → free_all_after w s offs ≡ s
  -- however long the list, the value counts no more than the pages have bytes
  pub few : (free_all_outcome w s offs).value ≤ 4096 * pages_in w s
  -- the pool stays sound and shows the model's next state
  pub sound : Sound w (free_all_after w s offs)
  pub length-kept : length (free_all_after w s offs) ≡ length s
  pub state : read w (free_all_after w s offs) ≡ (free_all (read w s) offs).after

-- when it succeeds any reordering succeeds too, with the same free runs, maps, used and total
abbrev pub AnyOrder : Type 0
AnyOrder = (w : ℕ) (s : List ℕ) → Sound w s → (xs ys : List ℕ) → Reordered xs ys → free_all_answered w s xs ≡ done →
    (free_all_answered w s ys ≡ done) × (shown_by w (free_all_after w s ys) ≡ shown_by w (free_all_after w s xs))

pub record Claims : Type 0 where
  pub unsound : Unsound
  pub on_sound : (w : ℕ) (s : List ℕ) → Sound w s → (offs : List ℕ) → OnSound w s offs
  pub any_order : AnyOrder
