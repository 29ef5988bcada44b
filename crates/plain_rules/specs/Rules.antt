-- Rules 2 to 6 (SPEC 16.3) as tests on a plain state: its pages t, the table of its free runs, its list of ready pages, the bytes b of the chunks.
use Rattle.std.specs.Prelude.{Bool, true, false, List, [], ◌∷◌, ℕ, ◌+◌, ◌-◌, eqb, leb, ltb, get_or}
use Rattle.base.specs.Tests.{pick, all_of, all_below}
use Rattle.base.specs.Count.{bit}
use Rattle.base.specs.Search.{any}
use Rattle.model.specs.Classes.{own, has_clear}
use Rattle.plain.specs.Table.{vacant, is_vacant}
use Rattle.plain.specs.Plain.{Plain, page_count, free_entry, mark_of, no_counts}
use Rattle.plain.specs.declared.Extent.{Extent}
use Rattle.plain.specs.declared.PageEntry.{PageEntry}
use Rattle.plain.specs.declared.Counts.{Counts}
use Rattle.plain_rules.specs.Counts.{free_page, hands_on, used_in, total_in, free_in}

-- how many entries pass the test
module _ {A : Type 0} where
  unfoldable pub how_many : (A → Bool) → List A → ℕ
  how_many q [] = 0
  how_many q (x ∷ t) = bit (q x) + how_many q t

-- ---- rules 2 and 5: pages

-- a page of class c: it is a class, the map's own chunks are marked, and a caller holds one
unfoldable pub class_ok : (b : List ℕ) (p c : ℕ) → Bool
class_ok b p c = pick (leb c 8) (pick (all_below (mark_of b p c) (own c)) (ltb 0 (hands_on c (mark_of b p c))) false) false

unfoldable pub is_inside : (t : List PageEntry) (p : ℕ) → Bool
is_inside t p = eqb (get_or t p free_entry).kind 3

-- the first of a taken run of n pages: at least one, and the others are inside
unfoldable pub run_ok : (t : List PageEntry) (p n : ℕ) → Bool
run_ok t p n = pick (eqb n 0) false (all_below (λ i. is_inside t (p + 1 + i)) (n - 1))

-- page q is the first of a taken run that reaches page p
unfoldable pub run_reaches : (p q : ℕ) (e : PageEntry) → Bool
run_reaches p q e = pick (eqb e.kind 2) (ltb p (q + e.run)) false

-- another of a taken run: one before it reaches it
unfoldable pub inside_ok : (t : List PageEntry) (p : ℕ) → Bool
inside_ok t p = any (λ q. run_reaches p q (get_or t q free_entry)) p

unfoldable pub kind_ok : (t : List PageEntry) (b : List ℕ) (p : ℕ) (e : PageEntry) → Bool
kind_ok t b p e =
    pick (eqb e.kind 0) true
    (pick (eqb e.kind 1) (class_ok b p e.class)
    (pick (eqb e.kind 2) (run_ok t p e.run)
    (pick (eqb e.kind 3) (inside_ok t p) false)))

-- ---- rules 2 and 3: the table of free runs

unfoldable pub free_before : (t : List PageEntry) (p : ℕ) → Bool
free_before t p = pick (eqb p 0) false (free_page t (p - 1))

-- no free page borders the pages from p up to q
unfoldable pub apart : (t : List PageEntry) (p q : ℕ) → Bool
apart t p q = pick (free_before t p) false (pick (free_page t q) false true)

-- and they end within the pages
unfoldable pub stretch_ok : (t : List PageEntry) (p q : ℕ) → Bool
stretch_ok t p q = pick (leb q page_count) (apart t p q) false

unfoldable pub extent_ok : (t : List PageEntry) (e : Extent) → Bool
extent_ok t e = pick (is_vacant e) true (stretch_ok t e.first (e.first + e.len))

unfoldable pub holds_page : (p : ℕ) (e : Extent) → Bool
holds_page p e = pick (leb e.first p) (ltb p (e.first + e.len)) false

-- a free page stands in one entry, any other in none
unfoldable pub runs_ok : (t : List PageEntry) (runs : List Extent) (p : ℕ) → Bool
runs_ok t runs p = eqb (how_many (holds_page p) runs) (bit (free_page t p))

-- ---- rule 4: the list of pages with a free chunk

unfoldable pub is_open : (b : List ℕ) (p : ℕ) (e : PageEntry) → Bool
is_open b p e = pick (eqb e.kind 1) (has_clear e.class (mark_of b p e.class)) false

unfoldable pub is_page : (p x : ℕ) → Bool
is_page p x = eqb x p

-- a class page with a free chunk is listed once, any other not at all
unfoldable pub list_ok : (b : List ℕ) (ready : List ℕ) (p : ℕ) (e : PageEntry) → Bool
list_ok b ready p e = eqb (how_many (is_page p) ready) (bit (is_open b p e))

-- ---- rule 6: counts

unfoldable pub counts_ok : (t : List PageEntry) (b : List ℕ) (c : ℕ) (x : Counts) → Bool
counts_ok t b c x = pick (eqb x.used (used_in t b c)) (eqb x.total (total_in t c)) false

-- ---- all of them

unfoldable pub page_ok : (t : List PageEntry) (runs : List Extent) (ready b : List ℕ) (p : ℕ) → Bool
page_ok t runs ready b p =
    all_of (kind_ok t b p (get_or t p free_entry) ∷ runs_ok t runs p ∷ list_ok b ready p (get_or t p free_entry) ∷ [])

unfoldable pub is_sound : (s : Plain) (b : List ℕ) → Bool
is_sound s b = all_of (
    all_below (page_ok s.pages s.runs s.ready b) page_count ∷
    all_below (λ i. extent_ok s.pages (get_or s.runs i vacant)) page_count ∷
    eqb s.free (free_in s.pages) ∷
    all_below (λ c. counts_ok s.pages b c (get_or s.counts c no_counts)) 9 ∷ [])
