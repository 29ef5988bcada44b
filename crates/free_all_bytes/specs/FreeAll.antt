-- What the call that frees a whole list or none answers and leaves, for every content of the slice.
use Rattle.std.specs.Prelude.{List, [], ◌∷◌, ℕ, eqb, length}
use Rattle.base.specs.Tests.{pick}
use Rattle.answers.specs.Outcome.{number_of, Outcome, granted}
use Rattle.answers.specs.declared.Refusal.TheVariants.{NotSound}
use Rattle.model.specs.Calls.{Free}
use Rattle.rules.specs.Bytes.{broken_rule, read}
use Rattle.demands.specs.Calls.{after}
use Rattle.free_all_model.specs.FreeAll.{Completion, done, stopped, free_all}

-- unsound records are refused with 3 at place 0, also for an empty list
unfoldable pub free_all_answered : (w : ℕ) (s offs : List ℕ) → Completion
free_all_answered w s offs = pick (eqb (broken_rule w s) 0) (free_all (read w s) offs).answer (stopped 0 (number_of NotSound))

-- as number and value (SPEC 4.1): done, the number of blocks given back; stopped, the number of the free that fails and its place
abbrev pub completed : ℕ → Completion → Outcome
completed n done = granted n
completed n (stopped place number) = record { number = number; value = place }

unfoldable pub free_all_outcome : (w : ℕ) (s offs : List ℕ) → Outcome
free_all_outcome w s offs = completed (length offs) (free_all_answered w s offs)

-- the slice after single frees in that order
unfoldable pub freed_each : (w : ℕ) (s offs : List ℕ) → List ℕ
freed_each w s [] = s
freed_each w s (off ∷ offs) = freed_each w (after w s (Free off)) offs

-- the slice after the whole list, or that at entry
unfoldable pub whole_or_entry : Completion → List ℕ → List ℕ → List ℕ
whole_or_entry done whole entry = whole
whole_or_entry (stopped k n) whole entry = entry

unfoldable pub free_all_after : (w : ℕ) (s offs : List ℕ) → List ℕ
free_all_after w s offs = whole_or_entry (free_all_answered w s offs) (freed_each w s offs) s
