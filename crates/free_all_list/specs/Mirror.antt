-- A list of offsets tried one after another, and taken back, in the order of code. P is the number of pages.
use Rattle.std.specs.Prelude.{true, false, List, [], ◌∷◌, ℕ, suc, Result, Ok, Err}
use Rattle.answers.specs.declared.Refusal.{Refusal}
use Rattle.answers.specs.Outcome.{number_of}
use Rattle.free_all_model.specs.FreeAll.{Completion, done, stopped}
use Rattle.free_all_try.specs.Mirror.{offset_tried}
use Rattle.free_all_mark.specs.Mirror.{offset_put}
use Rattle.free_all_list.specs.declared.Stop.{Stop}

-- the offset at place k is answered so; rest is what those after it make of the list
abbrev pub on_tried : ℕ → Result (Unit {0}) Refusal → Result (Unit {0}) Stop → Result (Unit {0}) Stop
on_tried k (Ok _) rest = rest
on_tried k (Err r) rest = Err (record { place = k; refusal = r })

-- the first of the list has place k
unfoldable pub list_tried : (w : ℕ) (s : List ℕ) (P k : ℕ) → List ℕ → Result (Unit {0}) Stop
list_tried w s P k [] = Ok tt
list_tried w s P k (off ∷ offs) = on_tried k (offset_tried w s P off) (list_tried w (offset_put false w s P off) P (suc k) offs)

-- the slice with the marks of the granted ones cleared
abbrev pub on_marked : Result (Unit {0}) Refusal → List ℕ → List ℕ → List ℕ
on_marked (Ok _) rest entry = rest
on_marked (Err r) rest entry = entry

unfoldable pub list_marked : (w : ℕ) (s : List ℕ) (P : ℕ) → List ℕ → List ℕ
list_marked w s P [] = s
list_marked w s P (off ∷ offs) = on_marked (offset_tried w s P off) (list_marked w (offset_put false w s P off) P offs) s

-- marks set again, the last first
unfoldable pub list_back : (w : ℕ) (s : List ℕ) (P : ℕ) → List ℕ → List ℕ
list_back w s P [] = s
list_back w s P (off ∷ offs) = offset_put true w (list_back w s P offs) P off

-- how many of a list of n offsets were granted
abbrev pub granted_of : Result (Unit {0}) Stop → ℕ → ℕ
granted_of (Ok _) n = n
granted_of (Err x) n = x.place

-- in the words of the model
abbrev pub completion_of : Result (Unit {0}) Stop → Completion
completion_of (Ok _) = done
completion_of (Err x) = stopped x.place (number_of x.refusal)
