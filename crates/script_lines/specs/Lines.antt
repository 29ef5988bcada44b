-- A script, line by line: the lines of an input, and what a line asks for.
use Rattle.std.specs.Prelude.{Option as Optional, Some, None, ℕ, Bool, cond, List, [], ◌∷◌, eqb, length, get_or, drop}
use Rattle.std.proofs.Math.Option.{Option, none, some}
use Rattle.base.specs.Tests.{pick, all_of}
use Rattle.script_numbers.specs.Numeral.{value_of, is_number}
use Rattle.model.specs.Calls.{Call, Alloc, Free}
use Rattle.script_lines.specs.declared.Request.{Request}
use Rattle.script_lines.specs.declared.Request.TheVariants.{Take, Give}

-- ---- lines

-- a byte in front of the first line
abbrev pub before : ℕ → List (List ℕ) → List (List ℕ)
before b [] = (b ∷ []) ∷ []
before b (l ∷ ls) = (b ∷ l) ∷ ls

-- a line ends in a newline, which the last may lack; after a final newline there is no further line
abbrev pub lines : List ℕ → List (List ℕ)
lines [] = []
lines (b ∷ bs) = cond (eqb b 10) ([] ∷ lines bs) (before b (lines bs))

-- ---- what a line asks for

-- four letters and a space
unfoldable pub begins : (line : List ℕ) (a b c d : ℕ) → Bool
begins line a b c d = all_of (
    eqb (get_or line 0 0) a ∷ eqb (get_or line 1 0) b ∷ eqb (get_or line 2 0) c ∷ eqb (get_or line 3 0) d ∷
    eqb (get_or line 4 0) 32 ∷ [])

unfoldable pub call_with : (call : (ℕ → Call)) (s : List ℕ) → Option Call
call_with call s = pick (is_number s) (some (call (value_of s (length s)))) none

-- `take N` and `give N`, and nothing else
unfoldable pub request : List ℕ → Option Call
request line =
    pick (begins line 116 97 107 101) (call_with Alloc (drop 5 line))
    (pick (begins line 103 105 118 101) (call_with Free (drop 5 line)) none)

-- the call that a line was read as; none where it is unreadable
abbrev pub call_of : Optional Request → Option Call
call_of (Some (Take n)) = some (Alloc n)
call_of (Some (Give off)) = some (Free off.0)
call_of None = none
