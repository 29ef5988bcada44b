-- The examples of SPEC 9.1 and the worked case on bytes: the questions and facts of the model's list, asked of format and of what it leaves of any slice.
use Rattle.std.specs.Prelude.{◌≡◌, List, [], ◌∷◌, map, ℕ, ◌≤◌, ◌<◌, length}
use Rattle.words.specs.Word.{Bytes}
use Rattle.records.specs.Class.{class_at}
use Rattle.answers.specs.Outcome.{Outcome, granted}
use Rattle.model.specs.Classes.{max_pages, need_of}
use Rattle.model.specs.State.{Run}
use Rattle.model.specs.Calls.{Call}
use Rattle.model.specs.Examples.{Question, formats, sized, replies, tally_after, runs_after, Fact, pool, no_pool, no_block, a_chunk, some_pages, answers, counts, free_runs, Example, needed, examples}
use Rattle.format.specs.Format.{shortest, too_long, format_outcome, formatted}
use Rattle.rules.specs.Bytes.{pages_in, read}
use Rattle.demands.specs.Calls.{outcome, answered, after}

-- the answers to a list of calls, and the slice after them
abbrev pub answers_on : ℕ → List ℕ → List Call → List Outcome
answers_on w s [] = []
answers_on w s (c ∷ cs) = answered w s c ∷ answers_on w (after w s c) cs

abbrev pub slice_after : ℕ → List ℕ → List Call → List ℕ
slice_after w s [] = s
slice_after w s (c ∷ cs) = slice_after w (after w s c) cs

pub data Seen : Type 0 where
  want : Fact → Seen  -- what a size asks for
  outcomes : List Outcome → Seen
  tally : ℕ → ℕ → Seen  -- reqs and fails of a class record
  runs : List Run → Seen

-- `slice P` is the slice that becomes a pool of P pages
abbrev pub seen : (ℕ → List ℕ) → Question → Seen
seen slice (formats n) = outcomes (format_outcome 2 n ∷ [])
seen slice (sized n) = want (needed (need_of n))
seen slice (replies P cs) = outcomes (answers_on 2 (formatted 2 (slice P)) cs)
seen slice (tally_after P cs c) =
    tally (class_at 2 (slice_after 2 (formatted 2 (slice P)) cs) c).reqs (class_at 2 (slice_after 2 (formatted 2 (slice P)) cs) c).fails
seen slice (runs_after P cs) = runs (read 2 (slice_after 2 (formatted 2 (slice P)) cs)).runs

abbrev pub as_seen : Fact → Seen
as_seen (pool P) = outcomes (granted P ∷ [])
as_seen (no_pool k) = outcomes (record { number = k; value = 0 } ∷ [])
as_seen no_block = want no_block
as_seen (a_chunk n) = want (a_chunk n)
as_seen (some_pages n) = want (some_pages n)
as_seen (answers rs) = outcomes (map outcome rs)
as_seen (counts t) = tally t.reqs t.fails
as_seen (free_runs rs) = runs rs

-- bytes that format makes a pool of P pages
pub record Accepted (P : ℕ) (s : List ℕ) : Type 0 where
  pub bytes : Bytes s
  pub some : shortest 2 ≤ length s
  pub most : length s < too_long 2
  pub pages : pages_in 2 s ≡ P

abbrev pub ExamplesOnBytes : Type 0
ExamplesOnBytes = (slice : ℕ → List ℕ) → ((P : ℕ) → 1 ≤ P → P ≤ max_pages → Accepted P (slice P)) →
    map (λ (x : Example). seen slice x.question) examples ≡ map (λ (x : Example). as_seen x.fact) examples
