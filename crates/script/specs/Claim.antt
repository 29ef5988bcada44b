-- What the definitions of a printout promise, each citing definitions only.
use Rattle.std.specs.Prelude.{◌≡◌, true, List, [], ℕ, ◌≤◌, ◌<◌, length, get_or, take}
use Rattle.model.specs.State.{State}
use Rattle.script_numbers.specs.Numeral.{value_of, is_number}
use Rattle.printing.specs.Text.{decimal}
use Rattle.script_lines.specs.Lines.{request}
use Rattle.script.specs.Script.{reply, replies, final, printout}

pub record Claims : Type 0 where
  -- each line's answer is the model's after the lines before it
  pub line-by-line : (m : State) (ls : List (List ℕ)) (k : ℕ) → k < length ls → get_or (replies m ls) k [] ≡ reply (final m (take k ls)) (request (get_or ls k []))
  -- a script line prints a line
  pub one_each : (m : State) (ls : List (List ℕ)) → length (replies m ls) ≡ length ls
  -- a number is printed as a script may give it back
  pub reads_back : (v : ℕ) → v ≤ 4294967295 → (is_number (decimal v) ≡ true) × (value_of (decimal v) (length (decimal v)) ≡ v)
  -- a buffer of 65,536 bytes holds every printout
  pub fits : (input : List ℕ) → length (printout input) ≤ 65536
