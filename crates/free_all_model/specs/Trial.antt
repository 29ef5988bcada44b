-- The statements on the trial: it decides the call.
use Rattle.std.specs.Prelude.{◌≡◌, List, ℕ}
use Rattle.model.specs.State.{State}
use Rattle.model.specs.WellFormed.{WellFormed}
use Rattle.model.specs.Calls.{Free, step}
use Rattle.free_all_model.specs.FreeAll.{after_frees, free_all}
use Rattle.free_all_model.specs.Mirror.{begun, settled, tried, tried_from, tried_all}
use Rattle.free_all_model.specs.Claim.{AllGranted}

-- of single frees that all succeed the trial tells every page, ..
abbrev pub TrialSettles : Type 0
TrialSettles = (s : State) → WellFormed s → (offs : List ℕ) → AllGranted s offs → (p : ℕ) → settled (tried_all (begun s) offs) p ≡ (after_frees s offs).page p

-- .. and how the next is answered
abbrev pub TrialAnswers : Type 0
TrialAnswers = (s : State) → WellFormed s → (offs : List ℕ) → AllGranted s offs → (off : ℕ) →
    tried (tried_all (begun s) offs) off ≡ (step (after_frees s offs) (Free off)).answer

-- so it decides the call
abbrev pub TrialDecides : Type 0
TrialDecides = (s : State) → WellFormed s → (offs : List ℕ) → tried_from (begun s) 0 offs ≡ (free_all s offs).answer
