-- A whole list of offsets freed, or none of them.
use Rattle.std.specs.Prelude.{List, [], ◌∷◌, ℕ, suc}
use Rattle.model.specs.State.{State}
use Rattle.model.specs.Calls.{Free, Answer, at, freed, no, step}

pub data Completion : Type 0 where
  done : Completion
  stopped : ℕ → ℕ → Completion  -- the first failing place, counted from 0, and the number of its free

-- the free at place k is answered so; rest is what the frees after it make of the list
unfoldable pub onward : ℕ → Answer → Completion → Completion
onward k (at off) rest = rest
onward k (freed n) rest = rest
onward k (no n) rest = stopped k n

-- single frees in the order of the list, the first of which has place k: the answer ..
unfoldable pub completion_from : State → ℕ → List ℕ → Completion
completion_from s k [] = done
completion_from s k (off ∷ offs) = onward k (step s (Free off)).answer (completion_from (step s (Free off)).after (suc k) offs)

-- .. and the state
unfoldable pub after_frees : State → List ℕ → State
after_frees s [] = s
after_frees s (off ∷ offs) = after_frees (step s (Free off)).after offs

-- the state after the whole list, or that at entry
unfoldable pub whole_or_none : Completion → State → State → State
whole_or_none done whole entry = whole
whole_or_none (stopped k n) whole entry = entry

pub record FreeAllReply : Type 0 where
  pub answer : Completion
  pub after : State

unfoldable pub free_all : State → List ℕ → FreeAllReply
free_all s offs = record {
  answer = completion_from s 0 offs;
  after = whole_or_none (completion_from s 0 offs) (after_frees s offs) s;
}
