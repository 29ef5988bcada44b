-- The same on the bytes of a pool, in the order of the code.
use Rattle.std.specs.Prelude.{◌≡◌, ℕ, ◌+◌, List, [], ◌∷◌, ◌++◌, length}
use Rattle.std.proofs.Math.Option.{Option, none, some}
use Rattle.answers.specs.declared.Refusal.TheVariants.{Unreadable}
use Rattle.model.specs.Calls.{Call}
use Rattle.format.specs.Format.{format_outcome, formatted}
use Rattle.demands.specs.Calls.{answered, after}
use Rattle.script_lines.specs.Lines.{lines, request}
use Rattle.printing.specs.Text.{written}
use Rattle.script_replies.specs.Replies.{refusal_line, format_line, reply_line}
use Rattle.script_summary.specs.Summary.{summary_of}
use Rattle.script.specs.Script.{joined}

unfoldable pub reply_on : List ℕ → Option Call → List ℕ
reply_on s none = refusal_line Unreadable
reply_on s (some call) = reply_line call (answered 2 s call)

unfoldable pub next_on : List ℕ → Option Call → List ℕ
next_on s none = s
next_on s (some call) = after 2 s call

-- a function that serves a request on the pool s makes t of it, prints the reply from place n of the slice u on, which becomes v, and answers the place r after it
abbrev pub Serves : (s t u v : List ℕ) (n r : ℕ) (x : Option Call) → Type 0
Serves s t u v n r x = (r ≡ n + length (reply_on s x)) × (v ≡ written u n (reply_on s x)) × (t ≡ next_on s x)

abbrev pub replies_on : List ℕ → List (List ℕ) → List (List ℕ)
replies_on s [] = []
replies_on s (l ∷ ls) = reply_on s (request l) ∷ replies_on (next_on s (request l)) ls

unfoldable pub final_on : List ℕ → List (List ℕ) → List ℕ
final_on s [] = s
final_on s (l ∷ ls) = final_on (next_on s (request l)) ls

-- what is printed for the lines of an input
unfoldable pub text_on : (s : List ℕ) (ls : List (List ℕ)) → List ℕ
text_on s ls = joined (replies_on s ls)

-- .. and with the first line and the last
unfoldable pub exchange_on : (s : List ℕ) (ls : List (List ℕ)) → List ℕ
exchange_on s ls = text_on s ls ++ summary_of 2 (final_on s ls)

unfoldable pub printout_on : (s input : List ℕ) → List ℕ
printout_on s input = format_line (format_outcome 2 (length s)) ++ exchange_on (formatted 2 s) (lines input)
