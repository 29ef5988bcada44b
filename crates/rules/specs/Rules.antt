-- Rules 2 to 6 (SPEC 3.2 to 3.6) as tests on the fields v of n pages.
use Rattle.std.specs.Prelude.{ℕ, zero, suc, ◌+◌, ◌-◌, ◌%◌, ◌^◌, Bool, true, false, not, [], ◌∷◌, eqb, leb, ltb}
use Rattle.base.specs.Tests.{pick, all_of, all_below}
use Rattle.base.specs.Count.{count}
use Rattle.records.specs.Layout.{no_page}
use Rattle.model.specs.Classes.{chunks, own, has_taken}
use Rattle.model.specs.State.{Page, idle, slab, taken, inside, edge, is_idle}
use Rattle.model.specs.View.{used_of, shown}
use Rattle.rules.specs.Fields.{Fields, kind, class, run, next, prev, map, first, page_at}
use Rattle.rules.specs.Read.{is_head, open_at, read_fields}

-- ---- rule 2 in two tests: the shape, that the pages divide into free runs, taken runs and class pages, no two free runs touch, and the maps'
-- own chunks are marked; and the links. The shape reads kinds, classes, run lengths and maps alone.

-- page p is one of the n pages and of kind k
unfoldable pub kind_at : (v : Fields) (n k p : ℕ) → Bool
kind_at v n k p = pick (ltb p n) (eqb (kind v p) k) false

unfoldable pub kind_from : (v : Fields) (start k i : ℕ) → Bool
kind_from v start k i = eqb (kind v (start + i)) k

-- the run of the k pages from p on: at least one, within the n pages, all after the first of kind `inner`
unfoldable pub run_fits : (v : Fields) (n p k inner : ℕ) → Bool
run_fits v n p k inner = all_of (ltb 0 k ∷ leb (p + k) n ∷ all_below (kind_from v (p + 1) inner) (k - 1) ∷ [])

-- kind 0: after a free page
unfoldable pub inside_free : (v : Fields) (p : ℕ) → Bool
inside_free v p = all_of (
    eqb (class v p) 0 ∷ eqb (run v p) 0 ∷ eqb (map v p) 0 ∷ ltb 0 p ∷ leb (kind v (p - 1)) 1 ∷ [])

-- no free page stands at x
unfoldable pub ends_free : (v : Fields) (n x : ℕ) → Bool
ends_free v n x = pick (ltb x n) (ltb 1 (kind v x)) true

-- kind 1: its run of k pages, after which no free page comes
unfoldable pub free_run : (v : Fields) (n p k : ℕ) → Bool
free_run v n p k = all_of (eqb (class v p) 0 ∷ eqb (map v p) 0 ∷ run_fits v n p k 0 ∷ ends_free v n (p + k) ∷ [])

unfoldable pub first_free : (v : Fields) (n p : ℕ) → Bool
first_free v n p = free_run v n p (run v p)

-- the map field x of a page of class c: 0 for a map in the page, else its unused low bits are 0
unfoldable pub map_fits : (x c : ℕ) → Bool
map_fits x c = pick (ltb c 3) (eqb x 0) (eqb (x % 2 ^ (64 - chunks c)) 0)

-- kind 2, class c, marks m
unfoldable pub class_with : (v : Fields) (p c : ℕ) (m : (ℕ → Bool)) → Bool
class_with v p c m = all_of (leb c 8 ∷ eqb (run v p) 0 ∷ all_below m (own c) ∷ map_fits (map v p) c ∷ [])

unfoldable pub class_page : (v : Fields) (p : ℕ) → Bool
class_page v p = class_with v p (class v p) (v.mark p)

-- no page inside a taken run stands at x
unfoldable pub ends_taken : (v : Fields) (n x : ℕ) → Bool
ends_taken v n x = pick (ltb x n) (not (eqb (kind v x) 4)) true

-- kind 3: its run of k pages
unfoldable pub taken_run : (v : Fields) (n p k : ℕ) → Bool
taken_run v n p k = all_of (eqb (class v p) 0 ∷ eqb (map v p) 0 ∷ run_fits v n p k 4 ∷ ends_taken v n (p + k) ∷ [])

unfoldable pub first_taken : (v : Fields) (n p : ℕ) → Bool
first_taken v n p = taken_run v n p (run v p)

-- kind 4: after a page of a taken run
unfoldable pub inside_taken : (v : Fields) (p : ℕ) → Bool
inside_taken v p = all_of (
    eqb (class v p) 0 ∷ eqb (run v p) 0 ∷ eqb (map v p) 0 ∷ ltb 0 p ∷ ltb 2 (kind v (p - 1)) ∷ [])

-- there are no kinds past 4
abbrev pub by_kind : ℕ → Bool → Bool → Bool → Bool → Bool → Bool
by_kind zero a b c d e = a
by_kind (suc zero) a b c d e = b
by_kind (suc (suc zero)) a b c d e = c
by_kind (suc (suc (suc zero))) a b c d e = d
by_kind (suc (suc (suc (suc zero)))) a b c d e = e
by_kind (suc (suc (suc (suc (suc k))))) a b c d e = false

unfoldable pub shape_at : (v : Fields) (n p : ℕ) → Bool
shape_at v n p = by_kind (kind v p) (inside_free v p) (first_free v n p) (class_page v p) (first_taken v n p) (inside_taken v p)

unfoldable pub shape : (v : Fields) (n : ℕ) → Bool
shape v n = all_below (shape_at v n) n

-- links of kind 0: only the last page of its run has a previous, which is tested with the first
unfoldable pub inside_links : (v : Fields) (n p : ℕ) → Bool
inside_links v n p = pick (eqb (next v p) no_page) (pick (kind_at v n 0 (p + 1)) (eqb (prev v p) no_page) true) false

-- of kind 1: the last of the k pages from p on leads back to p, where there are two or more
unfoldable pub last_back : (v : Fields) (p k : ℕ) → Bool
last_back v p k = pick (ltb 1 k) (eqb (prev v (p + k - 1)) p) true

-- of kinds 3 and 4
unfoldable pub no_links : (v : Fields) (p : ℕ) → Bool
no_links v p = pick (eqb (next v p) no_page) (eqb (prev v p) no_page) false

-- the nine zero bits, and next and previous but for those along a list
unfoldable pub links_fit_at : (v : Fields) (n p : ℕ) → Bool
links_fit_at v n p =
    pick (eqb (v.spare p) 0) (by_kind (kind v p) (inside_links v n p) (last_back v p (run v p)) true (no_links v p) (no_links v p)) false

unfoldable pub rule2_at : (v : Fields) (n p : ℕ) → Bool
rule2_at v n p = pick (shape_at v n p) (links_fit_at v n p) false

unfoldable pub rule2 : (v : Fields) (n : ℕ) → Bool
rule2 v n = all_below (rule2_at v n) n

-- ---- rules 3 and 4

-- from page h on, next leads through k pages that pass the test and then to no page; previous leads back, to b at last.
-- With as many pages to come as pass the test, each of them is met once (`proofs/Linked.antt`).
unfoldable pub linked : (ℕ → Bool) → (ℕ → ℕ) → (ℕ → ℕ) → ℕ → ℕ → ℕ → Bool
linked good nx pv zero b h = eqb h no_page
linked good nx pv (suc k) b h = pick (good h) (pick (eqb (pv h) b) (linked good nx pv k h (nx h)) false) false

-- the free-run list holds each free run once and ends; previous leads back
unfoldable pub rule3 : (v : Fields) (n : ℕ) → Bool
rule3 v n = linked (is_head v n) (next v) (prev v) (count (is_head v n) n) no_page v.image.first_run

-- the list of class c holds each page of the class with a free chunk once and ends; previous leads back
unfoldable pub class_list : (v : Fields) (n c : ℕ) → Bool
class_list v n c = linked (open_at v n c) (next v) (prev v) (count (open_at v n c) n) no_page (first v c)

-- a full page has no links
unfoldable pub full_alone : (v : Fields) (n p : ℕ) → Bool
full_alone v n p =
    pick (eqb (kind v p) 2)
    (pick (open_at v n (class v p) p) true (pick (eqb (next v p) no_page) (eqb (prev v p) no_page) false))
    true

unfoldable pub rule4 : (v : Fields) (n : ℕ) → Bool
rule4 v n = pick (all_below (class_list v n) 9) (all_below (full_alone v n) n) false

-- ---- rule 5: each class page has a chunk in a caller's hands

abbrev pub in_use : Page → Bool
in_use idle = true
in_use (slab c m) = has_taken c m
in_use (taken n) = true
in_use inside = true
in_use edge = true

unfoldable pub rule5 : (v : Fields) (n : ℕ) → Bool
rule5 v n = all_below (λ p. in_use (page_at v n p)) n

-- ---- rule 6: free pages, and each class's used and total

unfoldable pub free_in : (page : (ℕ → Page)) (n : ℕ) → ℕ
free_in page n = count (λ p. is_idle (page p)) n

unfoldable pub counts_fit : (v : Fields) (n c : ℕ) → Bool
counts_fit v n c =
    pick (eqb (v.image.class c).used (used_of (read_fields v n) c)) (eqb (v.image.class c).total ((shown (read_fields v n)).total c)) false

unfoldable pub rule6 : (v : Fields) (n : ℕ) → Bool
rule6 v n = pick (eqb v.image.free_pages (free_in (page_at v n) n)) (all_below (counts_fit v n) 9) false
