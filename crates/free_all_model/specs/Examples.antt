-- Worked examples on a pool of 4 pages: page 0 holds one chunk of 2,048 bytes, pages 1 and 2 are a taken run.
use Rattle.std.specs.Prelude.{◌≡◌, List, [], ◌∷◌, map, ℕ}
use Rattle.model.specs.State.{State}
use Rattle.model.specs.Calls.{Alloc, fresh, step}
use Rattle.free_all_model.specs.FreeAll.{Completion, done, stopped, free_all}

unfoldable pub chunk_and_run : State
chunk_and_run = (step (step (fresh 4) (Alloc 2048)).after (Alloc 8192)).after

pub record Example : Type 0 where
  pub offsets : List ℕ
  pub answer : Completion

unfoldable pub examples : List Example
examples =
    record { offsets = []; answer = done } ∷
    record { offsets = 0 ∷ 4096 ∷ []; answer = done } ∷
    record { offsets = 4096 ∷ 0 ∷ []; answer = done } ∷
    record { offsets = 5 ∷ []; answer = stopped 0 7 } ∷
    -- an offset twice, and any offset of a page that was emptied
    record { offsets = 0 ∷ 0 ∷ []; answer = stopped 1 6 } ∷
    record { offsets = 0 ∷ 5 ∷ []; answer = stopped 1 6 } ∷
    -- inside a run, and inside a run that was given back
    record { offsets = 8192 ∷ []; answer = stopped 0 7 } ∷
    record { offsets = 4096 ∷ 8192 ∷ []; answer = stopped 1 6 } ∷
    record { offsets = 4096 ∷ 4097 ∷ []; answer = stopped 1 6 } ∷
    -- past the pages
    record { offsets = 0 ∷ 4096 ∷ 16384 ∷ []; answer = stopped 2 5 } ∷ []

abbrev pub ExamplesHold : Type 0
ExamplesHold = map (λ (e : Example). (free_all chunk_and_run e.offsets).answer) examples ≡ map (λ (e : Example). e.answer) examples
