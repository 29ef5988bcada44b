-- The free runs in the bytes of a pool: first fit, and pages taken from the front of a run.
-- Page numbers and counts have 16 bits: sums wrap, in the code and here alike, and within a pool none does.
use Rattle.std.specs.Prelude.{ℕ, zero, suc, ◌+◌, ◌-◌, ◌%◌, List, eqb, leb, ltb}
use Rattle.base.specs.Tests.{pick}
use Rattle.records.specs.Layout.{no_page}
use Rattle.records.specs.declared.Links.{Links}
use Rattle.records.specs.Header.{header_at, with_header}
use Rattle.records.specs.Mirror.{free_to}
use Rattle.records.specs.Page.{links_at, with_links}
use Rattle.lists.specs.Mirror.{unlinked, replaced}
use Rattle.rules.specs.Drawn.{links}

abbrev pub wrap : ℕ → ℕ
wrap n = n % 65536

-- ---- records

unfoldable pub fewer_free : (s : List ℕ) (k : ℕ) → List ℕ
fewer_free s k = with_header s (free_to (header_at s) ((header_at s).free_pages - k))

-- a page that is on no list
abbrev pub plain : (kind run prev : ℕ) → Links
plain kind run prev = links kind 0 run no_page prev

-- the n pages from p on have the links l
unfoldable pub filled : ℕ → List ℕ → ℕ → ℕ → Links → List ℕ
filled w s p zero l = s
filled w s p (suc n) l = with_links w (filled w s p n l) (wrap (p + n)) l

-- the last of the n pages from t on leads back to t
unfoldable pub last_backed : (w : ℕ) (s : List ℕ) (t n : ℕ) → List ℕ
last_backed w s t n = with_links w s (wrap (t + (n - 1))) (plain 0 0 t)

-- where they are two or more
unfoldable pub backed : (w : ℕ) (s : List ℕ) (t n : ℕ) → List ℕ
backed w s t n = pick (ltb 1 n) (last_backed w s t n) s

-- ---- first fit

-- from page p on, the first of at most `fuel` pages of the list whose run has k pages or more
unfoldable pub fit_from : ℕ → List ℕ → ℕ → ℕ → ℕ → ℕ
fit_from w s zero k p = no_page
fit_from w s (suc fuel) k p =
    pick (eqb p no_page) no_page (pick (leb k (links_at w s p).run) p (fit_from w s fuel k (links_at w s p).next.0))

unfoldable pub fit_in : (w : ℕ) (s : List ℕ) (P k : ℕ) → ℕ
fit_in w s P k = fit_from w s P k (header_at s).first_run.0

-- ---- pages taken

-- what is left of the free run that starts in page p, which has the links l, after its front k pages takes its place
unfoldable pub rest_kept : (w : ℕ) (s : List ℕ) (p k : ℕ) (l : Links) → List ℕ
rest_kept w s p k l = backed w (replaced w s 0 l (wrap (p + k)) (plain 1 (l.run - k) no_page)) (wrap (p + k)) (l.run - k)

-- the front k pages of that run leave it; an exact fit leaves the list
unfoldable pub front_cut : (w : ℕ) (s : List ℕ) (p k : ℕ) (l : Links) → List ℕ
front_cut w s p k l = pick (ltb k l.run) (rest_kept w s p k l) (unlinked w s 0 l)

-- and are not free any more; the caller writes their records
unfoldable pub front_off : (w : ℕ) (s : List ℕ) (p k : ℕ) → List ℕ
front_off w s p k = front_cut w (fewer_free s k) p k (links_at w s p)

unfoldable pub front_page : (w : ℕ) (s : List ℕ) (p : ℕ) → List ℕ
front_page w s p = front_off w s p 1

unfoldable pub run_taken : (w : ℕ) (s : List ℕ) (p k : ℕ) → List ℕ
run_taken w s p k = with_links w (filled w (front_off w s p k) p k (plain 4 0 no_page)) p (plain 3 k no_page)
