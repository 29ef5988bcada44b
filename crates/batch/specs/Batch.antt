-- What a batch answers and leaves (SPEC 12), for every content of the pool, of the requests and of the places for answers.
use Rattle.std.specs.Prelude.{ℕ, ◌/◌, ◌%◌, List, [], ◌∷◌, ◌++◌, eqb, ltb, length, drop}
use Rattle.std.proofs.Math.Option.{Option, none, some}
use Rattle.base.specs.Tests.{pick}
use Rattle.answers.specs.Outcome.{Outcome, granted, refused}
use Rattle.answers.specs.declared.Refusal.TheVariants.{NotSound, Unreadable, AnswersTooShort}
use Rattle.answer_words.specs.Word.{word_of}
use Rattle.model.specs.Calls.{Call, Alloc, Free}
use Rattle.rules.specs.Bytes.{broken_rule}
use Rattle.demands.specs.Calls.{answered, after}

-- ---- a request: one word

-- the upper half is 0 for an alloc and 2³¹ for a free, the lower half has the size or the offset; a word with stray bits asks for nothing
unfoldable pub call_in : (word : ℕ) → Option Call
call_in x =
    pick (eqb (x / 4294967296) 0) (some (Alloc (x % 4294967296)))
    (pick (eqb (x / 4294967296) 2147483648) (some (Free (x % 4294967296))) none)

-- a stray word answers 8 and changes nothing
abbrev pub outcome_on : (w : ℕ) (s : List ℕ) → Option Call → Outcome
outcome_on w s none = refused Unreadable
outcome_on w s (some call) = answered w s call

abbrev pub slice_on : (w : ℕ) (s : List ℕ) → Option Call → List ℕ
slice_on w s none = s
slice_on w s (some call) = after w s call

unfoldable pub reply_to : (w : ℕ) (s : List ℕ) (word : ℕ) → ℕ
reply_to w s x = word_of (outcome_on w s (call_in x))

unfoldable pub left_by : (w : ℕ) (s : List ℕ) (word : ℕ) → List ℕ
left_by w s x = slice_on w s (call_in x)

-- ---- requests in order, each on what the one before left

unfoldable pub replies : ℕ → List ℕ → List ℕ → List ℕ
replies w s [] = []
replies w s (x ∷ xs) = reply_to w s x ∷ replies w (left_by w s x) xs

unfoldable pub left_by_all : ℕ → List ℕ → List ℕ → List ℕ
left_by_all w s [] = s
left_by_all w s (x ∷ xs) = left_by_all w (left_by w s x) xs

-- ---- the batch

unfoldable pub batch_outcome : (w : ℕ) (s requests answers : List ℕ) → Outcome
batch_outcome w s requests answers =
    pick (ltb (length answers) (length requests)) (refused AnswersTooShort)
    (pick (eqb (broken_rule w s) 0) (granted 0) (refused NotSound))

-- a refused batch leaves everything as it stood; places beyond the requests stay
unfoldable pub batch_pool : (w : ℕ) (s requests answers : List ℕ) → List ℕ
batch_pool w s requests answers = pick (eqb (batch_outcome w s requests answers).number 0) (left_by_all w s requests) s

unfoldable pub batch_answers : (w : ℕ) (s requests answers : List ℕ) → List ℕ
batch_answers w s requests answers =
    pick (eqb (batch_outcome w s requests answers).number 0) (replies w s requests ++ drop (length requests) answers) answers
