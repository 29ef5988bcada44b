-- What the public calls of the plain engine answer and leave.
use Rattle.std.specs.Prelude.{◌≡◌, true, false, List, ℕ, ◌≤◌, ◌<◌, length, take, drop}
use Rattle.answers.specs.Outcome.{Outcome, number_of}
use Rattle.answers.specs.declared.Refusal.TheVariants.{NotSound, TableTooShort}
use Rattle.model.specs.Calls.{Call, step, fresh}
use Rattle.demands.specs.Calls.{outcome}
use Rattle.plain.specs.Plain.{Plain, Served, plain_of, page_count, read_plain}
use Rattle.plain.specs.Pages.{refused}
use Rattle.plain.specs.declared.Extent.{Extent}
use Rattle.plain.specs.declared.Kept.{Kept}
use Rattle.plain.specs.declared.Answer.{Answer}
use Rattle.plain_rules.specs.Rules.{is_sound}

-- the bytes of a table of 12 entries, each of 512 chunks
abbrev pub table_length : ℕ
table_length = 6144

abbrev pub outcome_of : Served → Outcome
outcome_of r = record { number = r.number; value = r.value }

-- ---- a call on a plain state

-- a call on the plain state s, whose chunks have the bytes b, answers r with the state afterwards, and leaves the bytes d
pub record Serves (s : Plain) (b : List ℕ) (call : Call) (r : Served) (d : List ℕ) : Type 0 where
  -- refused with 16, then with 3; both leave everything as it was
  pub short : length b < table_length → (r ≡ refused s (number_of TableTooShort)) × (d ≡ b)
  pub unsound : table_length ≤ length b → is_sound s b ≡ false → (r ≡ refused s (number_of NotSound)) × (d ≡ b)
  -- else the answer and the state that is shown are the model's, and the plain state is sound again
  pub answer : table_length ≤ length b → is_sound s b ≡ true → outcome_of r ≡ outcome (step (read_plain s b) call).answer
  pub state : table_length ≤ length b → is_sound s b ≡ true → read_plain r.after d ≡ (step (read_plain s b) call).after
  pub sound : table_length ≤ length b → is_sound s b ≡ true → is_sound r.after d ≡ true
  -- the table keeps its length
  pub long : length d ≡ length b

-- ---- a call with a lent table of free runs

-- the plain state of what is kept and of the table's first 12 entries
abbrev pub seen : Kept → List Extent → Plain
seen s t = plain_of s (take page_count t)

abbrev pub served_as : Answer → List Extent → Served
served_as r u = record { after = seen r.after u; number = r.number; value = r.value }

-- the table of free runs t becomes u
pub record Lent (s : Kept) (t : List Extent) (b : List ℕ) (call : Call) (r : Answer) (u : List Extent) (d : List ℕ) : Type 0 where
  -- a table of fewer than 12 entries is refused with 16, and everything is as it was
  pub few : length t < page_count → (r ≡ record { after = s; number = number_of TableTooShort; value = 0 }) × (u ≡ t) × (d ≡ b)
  -- else the call is served on the plain state that is seen
  pub served : page_count ≤ length t → Serves (seen s t) b call (served_as r u) d
  -- entries past the 12th stay
  pub behind : drop page_count u ≡ drop page_count t
  pub kept : length u ≡ length t

-- what format leaves: sound, and the model's fresh state, whatever bytes the table has
pub record Formats (s : Plain) : Type 0 where
  pub state : (b : List ℕ) → read_plain s b ≡ fresh page_count
  pub sound : (b : List ℕ) → table_length ≤ length b → is_sound s b ≡ true
