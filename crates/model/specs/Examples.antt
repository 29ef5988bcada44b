-- The examples of SPEC 9.1 and the worked case, as one list of questions and facts.
use Rattle.std.specs.Prelude.{◌≡◌, cond, List, [], ◌∷◌, ◌++◌, map, ℕ, ◌-◌, ◌/◌, ltb}
use Rattle.answers.specs.Outcome.{number_of}
use Rattle.answers.specs.declared.Refusal.TheVariants.{TooShort, TooLong}
use Rattle.model.specs.Classes.{max_pages, chunk, Need, nothing, chunk_of, pages, need_of}
use Rattle.model.specs.State.{Run, Tally, State}
use Rattle.model.specs.Calls.{Call, Alloc, Free, Answer, at, freed, no, fresh, step}
use Rattle.model.specs.Live.{run_from, begin}

pub data Question : Type 0 where
  formats : ℕ → Question  -- what format answers for a slice of so many bytes
  sized : ℕ → Question  -- what a size asks for
  replies : ℕ → List Call → Question  -- the answers to calls on a fresh pool of so many pages
  tally_after : ℕ → List Call → ℕ → Question  -- the tally of a class after such calls
  runs_after : ℕ → List Call → Question  -- the free runs after such calls

pub data Fact : Type 0 where
  pool : ℕ → Fact  -- a pool of so many pages
  no_pool : ℕ → Fact  -- refused with this number
  no_block : Fact
  a_chunk : ℕ → Fact  -- of so many bytes
  some_pages : ℕ → Fact
  answers : List Answer → Fact
  counts : Tally → Fact
  free_runs : List Run → Fact

pub record Example : Type 0 where
  pub question : Question
  pub fact : Fact

-- of the page count that a length gives
unfoldable pub made : ℕ → Fact
made P = cond (ltb P 1) (no_pool (number_of TooShort)) (cond (ltb max_pages P) (no_pool (number_of TooLong)) (pool P))

abbrev pub needed : Need → Fact
needed nothing = no_block
needed (chunk_of c) = a_chunk (chunk c)
needed (pages k) = some_pages k

unfoldable pub replied : State → List Call → List Answer
replied s [] = []
replied s (c ∷ cs) = (step s c).answer ∷ replied (step s c).after cs

-- header and class records have 152 bytes, each page has 4,112 with its record
abbrev pub computed : Question → Fact
computed (formats n) = made ((n - 152) / 4112)
computed (sized n) = needed (need_of n)
computed (replies P cs) = answers (replied (fresh P) cs)
computed (tally_after P cs c) = counts ((run_from (begin P) cs).state.tally c)
computed (runs_after P cs) = free_runs (run_from (begin P) cs).state.runs

-- one page in two chunks, and then a request too many
unfoldable pub full_page : List Call
full_page = Alloc 2048 ∷ Alloc 2048 ∷ Alloc 1 ∷ []

-- three runs of one page, the outer two freed
unfoldable pub outer_freed : List Call
outer_freed = Alloc 4096 ∷ Alloc 4096 ∷ Alloc 4096 ∷ Free 0 ∷ Free 8192 ∷ []

-- the script of the whole case
unfoldable pub whole_case : List Call
whole_case = Alloc 30 ∷ Alloc 64 ∷ Alloc 5000 ∷ Free 32 ∷ Free 32 ∷ Alloc 0 ∷ []

unfoldable pub examples : List Example
examples =
    record { question = formats 4263; fact = no_pool 1 } ∷
    record { question = formats 4264; fact = pool 1 } ∷
    record { question = formats 1056935; fact = pool 256 } ∷
    record { question = formats 1056936; fact = pool 257 } ∷
    record { question = formats 16847015; fact = pool 4096 } ∷
    record { question = formats 16847016; fact = no_pool 2 } ∷
    record { question = sized 1; fact = a_chunk 8 } ∷
    record { question = sized 8; fact = a_chunk 8 } ∷
    record { question = sized 9; fact = a_chunk 16 } ∷
    record { question = sized 65; fact = a_chunk 128 } ∷
    record { question = sized 2048; fact = a_chunk 2048 } ∷
    record { question = sized 2049; fact = some_pages 1 } ∷
    record { question = sized 4096; fact = some_pages 1 } ∷
    record { question = sized 4097; fact = some_pages 2 } ∷
    record { question = replies 12 (Alloc 8 ∷ []); fact = answers (at 64 ∷ []) } ∷
    record { question = replies 12 (Alloc 16 ∷ []); fact = answers (at 32 ∷ []) } ∷
    record { question = replies 12 (Alloc 64 ∷ []); fact = answers (at 0 ∷ []) } ∷
    record { question = replies 1 full_page; fact = answers (at 0 ∷ at 2048 ∷ no 4 ∷ []) } ∷
    record { question = tally_after 1 full_page 0; fact = counts (record { reqs = 1; fails = 1 }) } ∷
    record {
      question = replies 12 (Alloc 8 ∷ Free 0 ∷ Free 65 ∷ Free 64 ∷ Free 64 ∷ []);
      fact = answers (at 64 ∷ no 7 ∷ no 7 ∷ freed 8 ∷ no 6 ∷ []);
    } ∷
    record {
      question = replies 12 (outer_freed ++ (Alloc 4096 ∷ []));
      fact = answers (at 0 ∷ at 4096 ∷ at 8192 ∷ freed 4096 ∷ freed 4096 ∷ at 8192 ∷ []);
    } ∷
    record { question = runs_after 12 outer_freed; fact = free_runs (record { start = 2; len = 10 } ∷ record { start = 0; len = 1 } ∷ []) } ∷
    record { question = replies 12 (Alloc 8192 ∷ Free 4096 ∷ Free 0 ∷ []); fact = answers (at 0 ∷ no 7 ∷ freed 8192 ∷ []) } ∷
    record { question = replies 12 (Free 49151 ∷ Free 49152 ∷ []); fact = answers (no 6 ∷ no 5 ∷ []) } ∷
    record { question = replies 12 whole_case; fact = answers (at 32 ∷ at 4096 ∷ at 8192 ∷ freed 32 ∷ no 6 ∷ no 10 ∷ []) } ∷
    record { question = runs_after 12 whole_case; fact = free_runs (record { start = 0; len = 1 } ∷ record { start = 4; len = 8 } ∷ []) } ∷
    []

abbrev pub ExamplesHold : Type 0
ExamplesHold = map (λ (x : Example). computed x.question) examples ≡ map (λ (x : Example). x.fact) examples
