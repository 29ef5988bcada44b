-- What a program prints: the calls of a function that writes a text of its input into a slice, and answers how long the text is.
use Rattle.std.specs.Prelude.{ℕ, ◌≡◌, ◌≤◌, List, ◌++◌, length}
use Rattle.printing.specs.Text.{written}
use denote.Ref.{Bor, MutBor}

-- a call with the input s and the slice out: its answer, and the slice after it
abbrev pub Calls : Type 1
Calls = Bor (List ℕ) → MutBor (List ℕ) → ℕ → MutBor (List ℕ) → Type 0

-- no text is longer than k
abbrev pub PrintsWithin : Calls → ℕ → Type 0
PrintsWithin post k = (s : Bor (List ℕ)) (out : MutBor (List ℕ)) (n : ℕ) (left : MutBor (List ℕ)) → post s out n left → n ≤ k

-- the text is what f makes of the input
abbrev pub PrintsText : Calls → (List ℕ → List ℕ) → Type 0
PrintsText post f = (s : Bor (List ℕ)) (out : MutBor (List ℕ)) (n : ℕ) (left : MutBor (List ℕ)) → post s out n left → (n ≡ length (f s.now)) × (left.now ≡ written out.now 0 (f s.now))

-- what lies past the first k bytes changes nothing
abbrev pub ReadsWithin : (List ℕ → List ℕ) → ℕ → Type 0
ReadsWithin f k = (xs ys : List ℕ) → k ≤ length xs → f xs ≡ f (xs ++ ys)
