-- Requests on sound records, in the bytes of a pool of P pages: what each request word is answered and what is left, in the order of the code.
use Rattle.std.specs.Prelude.{ℕ, ◌/◌, ◌%◌, List, [], ◌∷◌, eqb, ltb}
use Rattle.base.specs.Tests.{pick}
use Rattle.answers.specs.Outcome.{Outcome, granted, refused}
use Rattle.answers.specs.declared.Refusal.TheVariants.{NoRoom, Outside, NotTaken, NotAStart, Unreadable, NothingAsked}
use Rattle.answer_words.specs.Word.{word_of}
use Rattle.alloc_sound.specs.Mirror.{alloc_outcome, alloc_slice}
use Rattle.free_sound.specs.Mirror.{free_outcome, free_slice}

-- ---- a request word: what its upper half asks for, with its lower half

unfoldable pub asked_outcome : (w P : ℕ) (s : List ℕ) (call low : ℕ) → Outcome
asked_outcome w P s call low =
    pick (eqb call 0) (alloc_outcome w s P low) (pick (eqb call 2147483648) (free_outcome w s P low) (refused Unreadable))

unfoldable pub asked_slice : (w P : ℕ) (s : List ℕ) (call low : ℕ) → List ℕ
asked_slice w P s call low = pick (eqb call 0) (alloc_slice w s P low) (pick (eqb call 2147483648) (free_slice w s P low) s)

unfoldable pub served_word : (w P : ℕ) (s : List ℕ) (word : ℕ) → ℕ
served_word w P s x = word_of (asked_outcome w P s (x / 4294967296) (x % 4294967296))

unfoldable pub served_slice : (w P : ℕ) (s : List ℕ) (word : ℕ) → List ℕ
served_slice w P s x = asked_slice w P s (x / 4294967296) (x % 4294967296)

-- ---- requests in order, each on what the one before left

unfoldable pub served_words : ℕ → ℕ → List ℕ → List ℕ → List ℕ
served_words w P s [] = []
served_words w P s (x ∷ xs) = served_word w P s x ∷ served_words w P (served_slice w P s x) xs

unfoldable pub served_all : ℕ → ℕ → List ℕ → List ℕ → List ℕ
served_all w P s [] = s
served_all w P s (x ∷ xs) = served_all w P (served_slice w P s x) xs

-- ---- an answer word read back, as an alloc's and as a free's

unfoldable pub allocated_in : ℕ → Outcome
allocated_in x = pick (ltb x 4294967296) (granted x) (pick (eqb x 720575940379279360) (refused NothingAsked) (refused NoRoom))

unfoldable pub freed_in : ℕ → Outcome
freed_in x =
    pick (ltb x 4294967296) (granted x)
    (pick (eqb x 360287970189639680) (refused Outside) (pick (eqb x 432345564227567616) (refused NotTaken) (refused NotAStart)))
