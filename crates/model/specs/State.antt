-- The state of a pool apart from its bytes. Links, back links and counts are functions of it, so nothing is stored twice.
use Rattle.std.specs.Prelude.{Bool, true, false, ◌&&◌, List, ℕ, eqb}
use Rattle.model.specs.Classes.{has_clear}

-- what a page is
pub data Page : Type 0 where
  idle : Page  -- in a free run
  slab : ℕ → (ℕ → Bool) → Page  -- a page of a class, with its marks
  taken : ℕ → Page  -- the first page of a taken run of so many pages
  inside : Page  -- another page of a taken run
  edge : Page  -- past the last page

-- a free run: its first page and its length
pub record Run : Type 0 where
  pub start : ℕ
  pub len : ℕ

-- where a tally stops
unfoldable pub most : ℕ
most = 4294967295

-- the asks and failures of one class
pub record Tally : Type 0 where
  pub reqs : ℕ
  pub fails : ℕ

-- the pages; the free runs in list order; for each class its pages with a clear mark, in list order; for each class its tally
pub record State : Type 0 where
  pub size : ℕ
  pub page : ℕ → Page
  pub runs : List Run
  pub lists : ℕ → List ℕ
  pub tally : ℕ → Tally

abbrev pub is_idle : Page → Bool
is_idle idle = true
is_idle (slab c m) = false
is_idle (taken n) = false
is_idle inside = false
is_idle edge = false

-- the marks of a class page
abbrev pub marks_of : Page → ℕ → Bool
marks_of idle i = false
marks_of (slab c m) i = m i
marks_of (taken n) i = false
marks_of inside i = false
marks_of edge i = false

-- a page of class c with a clear mark
unfoldable pub is_open : ℕ → Page → Bool
is_open c idle = false
is_open c (slab d m) = eqb d c && has_clear c m
is_open c (taken n) = false
is_open c inside = false
is_open c edge = false
