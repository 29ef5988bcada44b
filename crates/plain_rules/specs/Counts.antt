-- What a plain state has in use, counted from its pages t and the bytes b of their chunks.
use Rattle.std.specs.Prelude.{Bool, false, List, ℕ, ◌*◌, eqb, leb, ltb, get_or}
use Rattle.base.specs.Tests.{pick}
use Rattle.base.specs.Count.{sum, count}
use Rattle.model.specs.Classes.{chunks, own, counted}
use Rattle.plain.specs.Arrays.{remade}
use Rattle.plain.specs.Plain.{Plain, page_count, free_entry, mark_of}
use Rattle.plain.specs.declared.PageEntry.{PageEntry}
use Rattle.plain.specs.declared.Counts.{Counts}

-- page p is one of the pages and free
unfoldable pub free_page : (t : List PageEntry) (p : ℕ) → Bool
free_page t p = pick (ltb p page_count) (eqb (get_or t p free_entry).kind 0) false

-- a page of class c
unfoldable pub of_class : (c : ℕ) (e : PageEntry) → Bool
of_class c e = pick (eqb e.kind 1) (eqb e.class c) false

unfoldable pub class_page : (t : List PageEntry) (c p : ℕ) → Bool
class_page t c p = of_class c (get_or t p free_entry)

-- chunk i of a page of class c with the marks m is in a caller's hands
unfoldable pub in_hands : (c : ℕ) (m : ℕ → Bool) (i : ℕ) → Bool
in_hands c m i = pick (leb (own c) i) (m i) false

unfoldable pub hands_on : (c : ℕ) (m : ℕ → Bool) → ℕ
hands_on c m = count (in_hands c m) (chunks c)

-- ---- rule 6

unfoldable pub used_on_page : (t : List PageEntry) (b : List ℕ) (c p : ℕ) → ℕ
used_on_page t b c p = pick (class_page t c p) (hands_on c (mark_of b p c)) 0

unfoldable pub used_in : (t : List PageEntry) (b : List ℕ) (c : ℕ) → ℕ
used_in t b c = sum (used_on_page t b c) page_count

unfoldable pub total_in : (t : List PageEntry) (c : ℕ) → ℕ
total_in t c = count (class_page t c) page_count * counted c

unfoldable pub free_in : (t : List PageEntry) → ℕ
free_in t = count (free_page t) page_count

-- ---- the counts of a state made afresh

unfoldable pub class_recounted : (t : List PageEntry) (b : List ℕ) (c : ℕ) (x : Counts) → Counts
class_recounted t b c x = record { used = used_in t b c; total = total_in t c; reqs = x.reqs; fails = x.fails }

unfoldable pub recounted : (s : Plain) (b : List ℕ) → Plain
recounted s b = record {
  runs = s.runs;
  pages = s.pages;
  ready = s.ready;
  counts = remade (class_recounted s.pages b) 0 s.counts;
  free = free_in s.pages;
}
