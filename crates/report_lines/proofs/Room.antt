-- How long the lines of a report are.
use mathlib.Core.List.{List, [], ◌∷◌, ◌++◌}
use Prim.Native.Nat.{ℕ, ◌+◌, ◌*◌, ◌≤◌}
use native.Mathlib.Omega.{arith}
use lib.ListN.{length, length-append}
use Rattle.model.specs.Classes.{chunk}
use Rattle.model.specs.Live.{Block, small, large}
use Rattle.printing.specs.Text.{decimal, phrase, line, pair_line, lines_of}
use Rattle.printing.proofs.Digits.{decimal-few}
use Rattle.report_lines.specs.Lines.{class_word, pages_word, used_word, total_word, asks_word, failures_word, free_word, taken_word, length_word, block_word, of_class_word, class_line, Span, free_span, taken_span, span_line, block_line}

phrase-few : (word : List ℕ) (v : ℕ) → length (phrase word v) ≤ length word + 10
unfolding phrase
phrase-few word v = omega (arith, length-append word (decimal v), (decimal-few v).1)

pub line-few : (word : List ℕ) (v : ℕ) → length (line word v) ≤ length word + 11
unfolding line
line-few word v = omega (arith, length-append (phrase word v) (10 ∷ []), phrase-few word v)

pair_few : (a : List ℕ) (x : ℕ) (b : List ℕ) (y : ℕ) → length (pair_line a x b y) ≤ length a + length b + 21
unfolding pair_line
pair_few a x b y = omega (arith, length-append (phrase a x) (line b y), phrase-few a x, line-few b y)

-- a phrase before a text
then_few : (word : List ℕ) (v : ℕ) (text : List ℕ) (k : ℕ) → length text ≤ k → length (phrase word v ++ text) ≤ length word + 10 + k
then_few word v text k h = omega (arith, length-append (phrase word v) text, phrase-few word v, h)

pub class-few : (size pages used total asks failures : ℕ) → length (class_line size pages used total asks failures) ≤ 103
unfolding class_line
class-few size pages used total asks failures =
    then_few class_word size _ 87
    (then_few pages_word pages _ 70
    (then_few used_word used _ 54
    (then_few total_word total _ 37
    (pair_few asks_word asks failures_word failures))))

pub span_few : (x : Span) → length (span_line x) ≤ 34
unfolding span_line
span_few (free_span first len) = omega (arith, pair_few free_word first length_word len)
span_few (taken_span first len) = omega (arith, pair_few taken_word first length_word len)

pub block_few : (e : Block) → length (block_line e) ≤ 34
unfolding block_line
block_few (small off c) = omega (arith, pair_few block_word off of_class_word (chunk c))
block_few (large off n) = omega (arith, pair_few block_word off pages_word n)

pub lines-few : {A : Type 0} (f : A → List ℕ) → ((x : A) → length (f x) ≤ 34) → (xs : List A) → length (lines_of f xs) ≤ 34 * length xs
lines-few f h [] = omega arith
lines-few f h (x ∷ xs) = omega (arith, length-append (f x) (lines_of f xs), h x, lines-few f h xs)
