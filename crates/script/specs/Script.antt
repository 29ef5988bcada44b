-- What the script program prints (SPEC 8): a line for the pool, one for each script line, one for what is free.
use Rattle.std.specs.Prelude.{ℕ, List, [], ◌∷◌, ◌++◌, leb, length}
use Rattle.std.proofs.Math.Option.{Option, none, some}
use Rattle.base.specs.Tests.{pick}
use Rattle.answers.specs.declared.Refusal.TheVariants.{Unreadable, ScriptTooLong}
use Rattle.model.specs.State.{State}
use Rattle.model.specs.Calls.{Call, fresh, step}
use Rattle.rules.specs.Rules.{free_in}
use Rattle.demands.specs.Calls.{outcome}
use Rattle.script_lines.specs.Lines.{lines, request}
use Rattle.printing.specs.Text.{line}
use Rattle.script_replies.specs.Replies.{pool_word, refusal_line, reply_line}
use Rattle.script_summary.specs.Summary.{summary_line}

-- the most bytes of a script, and the pages of its pool
abbrev pub longest : ℕ
longest = 12288

abbrev pub pages : ℕ
pages = 12

-- what a script line, which asks for a call or is unreadable, prints and leads to
unfoldable pub reply : State → Option Call → List ℕ
reply m none = refusal_line Unreadable
reply m (some call) = reply_line call (outcome (step m call).answer)

unfoldable pub next : State → Option Call → State
next m none = m
next m (some call) = (step m call).after

-- line by line
abbrev pub replies : State → List (List ℕ) → List (List ℕ)
replies m [] = []
replies m (l ∷ ls) = reply m (request l) ∷ replies (next m (request l)) ls

abbrev pub final : State → List (List ℕ) → State
final m [] = m
final m (l ∷ ls) = final (next m (request l)) ls

abbrev pub joined : List (List ℕ) → List ℕ
joined [] = []
joined (l ∷ ls) = l ++ joined ls

unfoldable pub summary : State → List ℕ
summary m = summary_line (free_in m.page m.size) (length m.runs)

unfoldable pub exchange : (m : State) (ls : List (List ℕ)) → List ℕ
exchange m ls = joined (replies m ls) ++ summary (final m ls)

unfoldable pub transcript : List ℕ → List ℕ
transcript input = line pool_word pages ++ exchange (fresh pages) (lines input)

-- the whole printout
unfoldable pub printout : List ℕ → List ℕ
printout input = pick (leb (length input) longest) (transcript input) (refusal_line ScriptTooLong)
