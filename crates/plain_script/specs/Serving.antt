-- What the lines of a script print and leave, on a plain state.
use Rattle.std.specs.Prelude.{◌≡◌, true, List, ℕ, ◌+◌, length}
use Rattle.std.proofs.Math.Option.{Option}
use Rattle.model.specs.Calls.{Call}
use Rattle.printing.specs.Text.{written}
use Rattle.script.specs.Script.{reply, next, replies, final, joined}
use Rattle.plain.specs.Plain.{Plain, read_plain}
use Rattle.plain_rules.specs.Rules.{is_sound}
use Rattle.plain_host.specs.Host.{shown}
use Rattle.plain_script.specs.declared.Turn.{Turn}

-- a script line that asks for x, on the state s with the bytes b, is answered from place n of the slice u on, which becomes v
pub record Replied (s : Plain) (b : List ℕ) (x : Option Call) (u v : List ℕ) (n : ℕ) (t : Turn) (d : List ℕ) : Type 0 where
  pub place : t.at ≡ n + length (reply (read_plain s b) x)
  pub text : v ≡ written u n (reply (read_plain s b) x)
  pub state : read_plain (shown t.after) d ≡ next (read_plain s b) x
  pub sound : is_sound (shown t.after) d ≡ true
  pub long : length d ≡ length b

-- the same of all lines
pub record Answered (s : Plain) (b : List ℕ) (ls : List (List ℕ)) (u v : List ℕ) (n : ℕ) (t : Turn) (d : List ℕ) : Type 0 where
  pub place : t.at ≡ n + length (joined (replies (read_plain s b) ls))
  pub text : v ≡ written u n (joined (replies (read_plain s b) ls))
  pub state : read_plain (shown t.after) d ≡ final (read_plain s b) ls
  pub sound : is_sound (shown t.after) d ≡ true
