-- The plain state, and the model state that it shows. Chunk i of page p is byte 512 * p + i of the lent slice b, and 0 is a free chunk.
use Rattle.std.specs.Prelude.{◌≡◌, Bool, false, not, List, ℕ, ◌+◌, ◌*◌, ◌≤◌, eqb, ltb, length, get_or}
use Rattle.base.specs.Tests.{pick}
use Rattle.base.specs.Lists.{keep}
use Rattle.model.specs.Classes.{chunks}
use Rattle.model.specs.State.{Page, idle, slab, taken, inside, edge, Tally, State}
use Rattle.plain.specs.Table.{read_runs}
use Rattle.plain.specs.declared.PageEntry.{PageEntry}
use Rattle.plain.specs.declared.Counts.{Counts}
use Rattle.plain.specs.declared.Extent.{Extent}
use Rattle.plain.specs.declared.Kept.{Kept}

-- the plain state but for the chunks
pub record Plain : Type 0 where
  -- the free runs in list order
  pub runs : List Extent
  pub pages : List PageEntry
  -- the class pages with a free chunk in list order
  pub ready : List ℕ
  pub counts : List Counts
  pub free : ℕ

-- the answer of a call, as `Answer`
pub record Served : Type 0 where
  pub after : Plain
  pub number : ℕ
  pub value : ℕ

-- what is kept by value, with a table of free runs
abbrev pub plain_of : Kept → List Extent → Plain
plain_of s t = record { runs = t; pages = s.pages; ready = s.ready; counts = s.counts; free = s.free }

-- the pages that the plain engine serves
abbrev pub page_count : ℕ
page_count = 12

-- the tables have their lengths and the slice has a byte for each chunk
pub record Shaped (s : Plain) (b : List ℕ) : Type 0 where
  pub runs : length s.runs ≡ page_count
  pub pages : length s.pages ≡ page_count
  pub ready : length s.ready ≡ page_count
  pub counts : length s.counts ≡ 9
  pub bytes : 6144 ≤ length b

-- ---- pages

unfoldable pub free_entry : PageEntry
free_entry = record { kind = 0; class = 0; run = 0 }

unfoldable pub entry_at : Plain → ℕ → PageEntry
entry_at s p = get_or s.pages p free_entry

-- the marks of page p, of class c
unfoldable pub mark_of : List ℕ → ℕ → ℕ → ℕ → Bool
mark_of b p c i = pick (ltb i (chunks c)) (not (eqb (get_or b (512 * p + i) 0) 0)) false

-- what an entry says of a page with the marks m
unfoldable pub page_of : PageEntry → (ℕ → Bool) → Page
page_of e m = pick (eqb e.kind 0) idle (pick (eqb e.kind 1) (slab e.class m) (pick (eqb e.kind 2) (taken e.run) inside))

unfoldable pub page_at : Plain → List ℕ → ℕ → Page
page_at s b p = pick (ltb p page_count) (page_of (entry_at s p) (mark_of b p (entry_at s p).class)) edge

-- ---- class lists

-- the pages of a list, in order
unfoldable pub listed : List ℕ → List ℕ
listed t = keep (λ p. ltb p page_count) t

-- the list of class c
unfoldable pub list_of : Plain → ℕ → List ℕ
list_of s c = keep (λ p. eqb (entry_at s p).class c) (listed s.ready)

-- ---- tallies

unfoldable pub no_counts : Counts
no_counts = record { used = 0; total = 0; reqs = 0; fails = 0 }

unfoldable pub tally_of : Counts → Tally
tally_of t = record { reqs = t.reqs; fails = t.fails }

-- ---- the state

unfoldable pub read_plain : Plain → List ℕ → State
read_plain s b = record {
  size = page_count;
  page = page_at s b;
  runs = read_runs s.runs;
  lists = list_of s;
  tally = λ c. tally_of (get_or s.counts c no_counts);
}
