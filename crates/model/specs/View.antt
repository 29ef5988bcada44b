-- The five that demand 3 compares, as one view, and what a state shows of them.
use Rattle.std.specs.Prelude.{Bool, true, false, ◌&&◌, ℕ, ◌*◌, eqb, leb}
use Rattle.base.specs.Count.{sum, count}
use Rattle.model.specs.Classes.{chunks, own, counted}
use Rattle.model.specs.State.{Page, idle, slab, taken, inside, edge, State, marks_of}
use Rattle.model.specs.Runs.{starts_at}

-- what a page is, apart from its marks; past the end all are vacant
pub data Kind : Type 0 where
  vacant : Kind  -- free
  class : ℕ → Kind
  run_of : ℕ → Kind  -- the first page of a taken run of so many pages
  within : Kind  -- another page of a taken run

-- Nothing stands outside the range: no run starts past the end, no mark is set off class pages and their chunks.
pub record View : Type 0 where
  pub size : ℕ
  pub free_run : ℕ → ℕ  -- the length of the free run that starts at this page; 0 where none does
  pub page : ℕ → Kind
  pub mark : ℕ → ℕ → Bool  -- of a page and a chunk
  pub used : ℕ → ℕ
  pub total : ℕ → ℕ

abbrev pub is_vacant : Kind → Bool
is_vacant vacant = true
is_vacant (class c) = false
is_vacant (run_of n) = false
is_vacant within = false

abbrev pub is_class : ℕ → Kind → Bool
is_class c vacant = false
is_class c (class d) = eqb d c
is_class c (run_of n) = false
is_class c within = false

-- the pages of class c times the chunks that count
unfoldable pub total_in : (page : (ℕ → Kind)) (P c : ℕ) → ℕ
total_in page P c = count (λ p. is_class c (page p)) P * counted c

-- ---- what a state shows

abbrev pub kind_of : Page → Kind
kind_of idle = vacant
kind_of (slab c m) = class c
kind_of (taken n) = run_of n
kind_of inside = within
kind_of edge = vacant

-- marked chunks of class c other than the bitmaps' own
abbrev pub used_on : (c : ℕ) (x : Page) → ℕ
used_on c x = count (λ i. leb (own c) i && (is_class c (kind_of x) && marks_of x i)) (chunks c)

unfoldable pub used_of : (s : State) (c : ℕ) → ℕ
used_of s c = sum (λ p. used_on c (s.page p)) s.size

unfoldable pub shown : State → View
shown s = record {
  size = s.size;
  free_run = λ p. starts_at p s.runs;
  page = λ p. kind_of (s.page p);
  mark = λ p i. marks_of (s.page p) i;
  used = used_of s;
  total = total_in (λ p. kind_of (s.page p)) s.size;
}
