-- On every list of calls from format the plain engine and a packed pool of 12 pages answer alike, and have the same counts.
use Rattle.std.specs.Prelude.{◌≡◌, List, [], ◌∷◌, ℕ, ◌≤◌, ◌<◌, length, get_or}
use Rattle.words.specs.Word.{Bytes}
use Rattle.records.specs.Header.{header_at}
use Rattle.records.specs.Class.{class_at}
use Rattle.answers.specs.Outcome.{Outcome}
use Rattle.model.specs.Calls.{Call}
use Rattle.format.specs.Format.{shortest, too_long, formatted}
use Rattle.rules.specs.Bytes.{pages_in}
use Rattle.demands.specs.Calls.{answered}
use Rattle.demands.specs.Demands.{Turn, Allowed, played}
use Rattle.plain.specs.Plain.{page_count, no_counts}
use Rattle.plain.specs.declared.Extent.{Extent}
use Rattle.plain.specs.declared.Kept.{Kept}
use Rattle.plain.specs.declared.Answer.{Answer}
use Rattle.plain_decide.specs.Calls.{table_length, outcome_of, seen, served_as, Lent, Formats}

-- ---- the packed pool

abbrev pub calls_of : List Turn → List Call
calls_of [] = []
calls_of (t ∷ ts) = t.call ∷ calls_of ts

-- what a pool answers to a list of turns
abbrev pub pool_answers : ℕ → List Turn → List Outcome
pool_answers w [] = []
pool_answers w (t ∷ ts) = answered w t.bytes t.call ∷ pool_answers w ts

-- ---- the plain engine

-- a list of calls, from what is kept, the table of free runs and the bytes of the chunks to the same at the end: each is served as the
-- call promises, and os are the answers
abbrev pub Played : Kept → List Extent → List ℕ → List Call → List Outcome → Kept → List Extent → List ℕ → Type 0
Played s x b [] os t y d = (os ≡ []) × (t ≡ s) × (y ≡ x) × (d ≡ b)
Played s x b (k ∷ ks) os t y d = (r : Answer) × (u : List Extent) × (e : List ℕ) × (rest : List Outcome) × Lent s x b k r u e × (os ≡ outcome_of (served_as r u) ∷ rest) × Played r.after u e ks rest t y d

-- ---- both

-- the counts of a plain state, and those in the records of a pool
pub record SameCounts (w : ℕ) (u : List ℕ) (t : Kept) : Type 0 where
  pub free : t.free ≡ (header_at u).free_pages
  pub used : (c : ℕ) → c < 9 → (get_or t.counts c no_counts).used ≡ (class_at w u c).used
  pub total : (c : ℕ) → c < 9 → (get_or t.counts c no_counts).total ≡ (class_at w u c).total
  pub reqs : (c : ℕ) → c < 9 → (get_or t.counts c no_counts).reqs ≡ (class_at w u c).reqs
  pub fails : (c : ℕ) → c < 9 → (get_or t.counts c no_counts).fails ≡ (class_at w u c).fails

-- from format on, for every list of turns, between which callers may write what they like into their blocks, and every table of runs that begins as format says, and every table of chunks
abbrev pub Alike : Type 0
Alike = (w : ℕ) → 2 ≤ w → w ≤ 255 → (s : List ℕ) → Bytes s → shortest w ≤ length s → length s < too_long w → pages_in w s ≡ page_count →
    (ts : List Turn) → Allowed w (formatted w s) ts →
    (f : Kept) (x : List Extent) → page_count ≤ length x → Formats (seen f x) → (b : List ℕ) → table_length ≤ length b →
    (os : List Outcome) (t : Kept) (y : List Extent) (d : List ℕ) → Played f x b (calls_of ts) os t y d →
    (os ≡ pool_answers w ts) × SameCounts w (played w (formatted w s) ts) t
