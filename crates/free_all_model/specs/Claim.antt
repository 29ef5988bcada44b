-- The statements on the call that frees a whole list or none.
use Rattle.std.specs.Prelude.{◌≡◌, ◌↔◌, List, [], ◌∷◌, ℕ, ◌+◌, ◌*◌, ◌≤◌, ◌<◌, eqb, length, get_or, take}
use Rattle.base.specs.Count.{bit}
use Rattle.base.specs.Lists.{Mem, NoDup}
use Rattle.model.specs.State.{State}
use Rattle.model.specs.WellFormed.{WellFormed}
use Rattle.model.specs.Calls.{Free, no, step}
use Rattle.model.specs.Live.{Block, offset, Live}
use Rattle.model.specs.View.{shown}
use Rattle.model.specs.Ruling.{granted, verdict}
use Rattle.free_all_model.specs.FreeAll.{done, stopped, after_frees, free_all}
use Rattle.free_all_model.specs.Examples.{ExamplesHold}

-- ---- what single frees in that order do

-- they all succeed
abbrev pub AllGranted : State → List ℕ → Type 0
AllGranted s [] = Unit {0}
AllGranted s (off ∷ offs) = (verdict (step s (Free off)).answer ≡ granted) × AllGranted (step s (Free off)).after offs

-- the one at place k is the first that is refused, with number n
pub record FirstRefusal (s : State) (offs : List ℕ) (k n : ℕ) : Type 0 where
  pub place : k < length offs
  pub before : AllGranted s (take k offs)
  pub number : (step (after_frees s (take k offs)) (Free (get_or offs k 0))).answer ≡ no n

-- the call answers and leaves what they do, on any state
pub record AsSingleFrees (s : State) (offs : List ℕ) : Type 0 where
  pub done_when : ((free_all s offs).answer ≡ done) ↔ AllGranted s offs
  pub done-state : (free_all s offs).answer ≡ done → (free_all s offs).after ≡ after_frees s offs
  pub stopped_when : (k n : ℕ) → ((free_all s offs).answer ≡ stopped k n) ↔ FirstRefusal s offs k n
  pub stopped-state : (k n : ℕ) → (free_all s offs).answer ≡ stopped k n → (free_all s offs).after ≡ s

-- ---- on a well-formed state

-- at each offset of the list a live block begins, and none stands twice
pub record Listed (s : State) (offs : List ℕ) : Type 0 where
  pub once : NoDup offs
  pub live : (off : ℕ) → Mem off offs → (e : Block) × Live s.page e × (offset e ≡ off)

pub record OnWellFormed (s : State) (offs : List ℕ) : Type 0 where
  pub well : WellFormed (free_all s offs).after
  pub size : (free_all s offs).after.size ≡ s.size
  -- the order plays no part in whether it is done, ..
  pub done-listed : ((free_all s offs).answer ≡ done) ↔ Listed s offs
  -- .. nor in the blocks that are left
  pub left : (free_all s offs).answer ≡ done → (e : Block) → Live (free_all s offs).after.page e ↔ (Live s.page e × (¬ Mem (offset e) offs))
  -- a list that is done is no longer than the pages have bytes
  pub few : (free_all s offs).answer ≡ done → length offs ≤ 4096 * s.size

-- ---- reordering

-- how often x stands in the list
abbrev pub times : ℕ → List ℕ → ℕ
times x [] = 0
times x (y ∷ ys) = times x ys + bit (eqb y x)

-- the same offsets, each as often
abbrev pub Reordered : List ℕ → List ℕ → Type 0
Reordered xs ys = (x : ℕ) → times x xs ≡ times x ys

-- a reordered list succeeds too, with the same free runs, maps, used and total
pub record SameView (s : State) (xs ys : List ℕ) : Type 0 where
  pub done_too : (free_all s ys).answer ≡ done
  pub view : shown (free_all s ys).after ≡ shown (free_all s xs).after

abbrev pub AnyOrder : Type 0
AnyOrder = (s : State) → WellFormed s → (xs ys : List ℕ) → Reordered xs ys → (free_all s xs).answer ≡ done → SameView s xs ys

-- ---- all of them

pub record Claims : Type 0 where
  pub as_single_frees : (s : State) (offs : List ℕ) → AsSingleFrees s offs
  pub on_well_formed : (s : State) → WellFormed s → (offs : List ℕ) → OnWellFormed s offs
  pub any_order : AnyOrder
  pub examples_hold : ExamplesHold
