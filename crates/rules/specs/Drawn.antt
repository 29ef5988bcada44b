-- The fields that a state determines.
use Rattle.std.specs.Prelude.{ℕ, ◌+◌, ◌-◌, List, [], ◌∷◌, eqb, ltb}
use Rattle.base.specs.Tests.{pick}
use Rattle.base.specs.Links.{head_or, next_in, prev_from}
use Rattle.records.specs.Layout.{no_page}
use Rattle.records.specs.declared.ClassRecord.{ClassRecord}
use Rattle.records.specs.declared.Links.{Links}
use Rattle.model.specs.State.{Page, idle, slab, taken, inside, edge, State, Run, Tally, marks_of}
use Rattle.model.specs.Runs.{starts_at, ends_at}
use Rattle.model.specs.View.{used_of, shown}
use Rattle.maps.specs.Bitmap.{bits_of}
use Rattle.image.specs.Image.{Image}
use Rattle.rules.specs.Fields.{Fields}
use Rattle.rules.specs.Rules.{free_in}

-- the first pages of the runs
abbrev pub starts : List Run → List ℕ
starts [] = []
starts (r ∷ rs) = r.start ∷ starts rs

abbrev pub links : (kind class run next prev : ℕ) → Links
links kind class run next prev =
    record { kind = kind; class = class; run = run; next = record { 0 = next }; prev = record { 0 = prev } }

-- the page before and the page after p on a list, or none
abbrev pub on_list : (kind class run p : ℕ) (xs : List ℕ) → Links
on_list kind class run p xs = links kind class run (next_in no_page p xs) (prev_from no_page no_page p xs)

-- the first page of the free run whose last page is p, where it has two or more
unfoldable pub back_link : (rs : List Run) (p : ℕ) → ℕ
back_link rs p = pick (eqb (ends_at (p + 1) rs) 0) no_page (p + 1 - ends_at (p + 1) rs)

-- of a free page: the first of its run, or inside it
unfoldable pub free_links : (rs : List Run) (p : ℕ) → Links
free_links rs p = pick (eqb (starts_at p rs) 0) (links 0 0 0 no_page (back_link rs p)) (on_list 1 0 (starts_at p rs) p (starts rs))

abbrev pub page_links : List Run → (ℕ → List ℕ) → ℕ → Page → Links
page_links rs lists p idle = free_links rs p
page_links rs lists p (slab c m) = on_list 2 c 0 p (lists c)
page_links rs lists p (taken n) = links 3 0 n no_page no_page
page_links rs lists p inside = links 4 0 0 no_page no_page
page_links rs lists p edge = links 0 0 0 no_page no_page

-- the map field: classes of 64 and up keep their map there
abbrev pub map_of : Page → ℕ
map_of idle = 0
map_of (slab c m) = pick (ltb c 3) 0 (bits_of m 64)
map_of (taken n) = 0
map_of inside = 0
map_of edge = 0

-- of a class: its first page, its counts and its tallies
abbrev pub class_record : (first used total : ℕ) (tally : Tally) → ClassRecord
class_record first used total tally =
    record { first = record { 0 = first }; used = used; total = total; reqs = tally.reqs; fails = tally.fails }

unfoldable pub state_image : State → Image
state_image s = record {
  free_pages = free_in s.page s.size;
  first_run = head_or no_page (starts s.runs);
  class = λ c. class_record (head_or no_page (s.lists c)) (used_of s c) ((shown s).total c) (s.tally c);
  map = λ p. map_of (s.page p);
  links = λ p. page_links s.runs s.lists p (s.page p);
}

unfoldable pub state_fields : State → Fields
state_fields s = record { image = state_image s; spare = λ p. 0; mark = λ p i. marks_of (s.page p) i }
