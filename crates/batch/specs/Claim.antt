-- What is promised of batches beyond their equations, each citing definitions only.
use Rattle.std.specs.Prelude.{◌≡◌, ◌≢◌, List, [], ◌∷◌, ◌++◌, ℕ, ◌/◌, ◌%◌, ◌≤◌, ◌<◌, length, get_or, take}
use Rattle.std.proofs.Math.Option.{Option, none, some}
use Rattle.words.specs.Word.{Bytes}
use Rattle.answers.specs.Outcome.{Outcome, granted, refused}
use Rattle.answers.specs.declared.Refusal.{Refusal}
use Rattle.answers.specs.declared.Refusal.TheVariants.{NotSound, AnswersTooShort}
use Rattle.answer_words.specs.Word.{word_of}
use Rattle.model.specs.Calls.{Call}
use Rattle.model.specs.Live.{Block}
use Rattle.rules.specs.Bytes.{broken_rule}
use Rattle.demands.specs.Calls.{answered}
use Rattle.demands.specs.Demands.{fed, Reached}
use Rattle.demands.specs.Examples.{slice_after}
use Rattle.batch.specs.Batch.{call_in, outcome_on, batch_outcome, batch_pool, batch_answers}

-- ---- a batch and single calls

-- stray words aside, the calls that words ask for
abbrev pub with_call : Option Call → List Call → List Call
with_call none calls = calls
with_call (some call) calls = call ∷ calls

abbrev pub calls_in : List ℕ → List Call
calls_in [] = []
calls_in (x ∷ xs) = with_call (call_in x) (calls_in xs)

module _ (w : ℕ) (s requests answers : List ℕ) where
  -- refused: everything is as it stood
  pub record Refused (r : Refusal) : Type 0 where
    pub outcome : batch_outcome w s requests answers ≡ refused r
    pub pool : batch_pool w s requests answers ≡ s
    pub places : batch_answers w s requests answers ≡ answers

  -- served: the pool is as single calls in that order leave it; each word has the answer of a single call after those before it, a stray
  -- word 8; places beyond the requests stay
  pub record Served : Type 0 where
    pub outcome : batch_outcome w s requests answers ≡ granted 0
    pub pool : batch_pool w s requests answers ≡ slice_after w s (calls_in requests)
    pub sound : broken_rule w (batch_pool w s requests answers) ≡ 0
    pub answer : (i : ℕ) → i < length requests →
        get_or (batch_answers w s requests answers) i 0 ≡ word_of (outcome_on w (slice_after w s (calls_in (take i requests))) (call_in (get_or requests i 0)))
    pub beyond : (i : ℕ) → length requests ≤ i → get_or (batch_answers w s requests answers) i 0 ≡ get_or answers i 0
    pub places : length (batch_answers w s requests answers) ≡ length answers

-- ---- a batch and the live set

-- an answer read from its word (SPEC 4.1): the number in the top 8 bits, the value in the low 32
abbrev pub outcome_in : ℕ → Outcome
outcome_in a = record { number = a / 72057594037927936; value = a % 4294967296 }

-- the live set (SPEC 6.2) after requests, from their words and those of the answers alone
abbrev pub fed_with : List Block → Option Call → Outcome → List Block
fed_with B none o = B
fed_with B (some call) o = fed B call o

abbrev pub fed_all : List Block → List ℕ → List ℕ → List Block
fed_all B [] answers = B
fed_all B (x ∷ xs) [] = B
fed_all B (x ∷ xs) (a ∷ answers) = fed_all (fed_with B (call_in x) (outcome_in a)) xs answers

-- ---- all of them, over the class record's width

pub record Laws (w : ℕ) (s : List ℕ) : Type 0 where
  -- 11 comes before 3
  pub too_short : (requests answers : List ℕ) → length answers < length requests → Refused w s requests answers AnswersTooShort
  pub unsound : (requests answers : List ℕ) → length requests ≤ length answers → broken_rule w s ≢ 0 → Refused w s requests answers NotSound
  pub served : (requests answers : List ℕ) → length requests ≤ length answers → broken_rule w s ≡ 0 → Served w s requests answers
  -- cutting a batch in two changes neither the end state nor an answer
  pub cut-pool : (xs ys a b : List ℕ) → length xs ≡ length a → length ys ≤ length b →
      batch_pool w s (xs ++ ys) (a ++ b) ≡ batch_pool w (batch_pool w s xs a) ys b
  pub cut-answers : (xs ys a b : List ℕ) → length xs ≡ length a → length ys ≤ length b →
      batch_answers w s (xs ++ ys) (a ++ b) ≡ batch_answers w s xs a ++ batch_answers w (batch_pool w s xs a) ys b
  -- an answer reads back from its word
  pub told : (call : Call) → outcome_in (word_of (answered w s call)) ≡ answered w s call
  -- A batch's calls are turns (SPEC 6.1), so demand 3 holds through it: on a pool that is reached from s with the live set B it is served,
  -- and the pool is reached then with the live set that the words tell
  pub reached : (B : List Block) (u : List ℕ) → Reached w s B u → (requests answers : List ℕ) → length requests ≤ length answers →
      (batch_outcome w u requests answers ≡ granted 0) ×
      Reached w s (fed_all B requests (batch_answers w u requests answers)) (batch_pool w u requests answers)

abbrev pub Claims : Type 0
Claims = (w : ℕ) → 2 ≤ w → w ≤ 255 → (s : List ℕ) → Bytes s → Laws w s
