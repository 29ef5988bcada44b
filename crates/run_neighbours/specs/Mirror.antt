-- Pages released in the bytes of a pool: they join the free runs beside them, and the whole becomes the head of the list.
use Rattle.std.specs.Prelude.{ℕ, ◌+◌, ◌-◌, List, eqb, ltb}
use Rattle.base.specs.Tests.{pick}
use Rattle.records.specs.Layout.{no_page}
use Rattle.records.specs.declared.Links.{Links}
use Rattle.records.specs.Header.{header_at, with_header}
use Rattle.records.specs.Mirror.{free_to}
use Rattle.records.specs.Page.{links_at}
use Rattle.lists.specs.Mirror.{unlinked, pushed}
use Rattle.run_extents.specs.Mirror.{wrap, plain, filled, backed}

unfoldable pub more_free : (s : List ℕ) (k : ℕ) → List ℕ
more_free s k = with_header s (free_to (header_at s) (wrap ((header_at s).free_pages + k)))

-- the length of the free run that the page with the links l starts; 0 where it starts none
unfoldable pub len_from : Links → ℕ
len_from l = pick (eqb l.kind 1) l.run 0

unfoldable pub run_from : (w : ℕ) (s : List ℕ) (q : ℕ) → ℕ
run_from w s q = len_from (links_at w s q)

-- of the free run that starts in page q, inside the pool
unfoldable pub right_len : (w : ℕ) (s : List ℕ) (P q : ℕ) → ℕ
right_len w s P q = pick (ltb q P) (run_from w s q) 0

-- the length of the free run whose last page, with the links l, stands right before page p
unfoldable pub len_to : (l : Links) (p : ℕ) → ℕ
len_to l p = pick (eqb l.kind 1) 1 (pick (eqb l.kind 0) (p - l.prev.0) 0)

unfoldable pub run_to : (w : ℕ) (s : List ℕ) (p : ℕ) → ℕ
run_to w s p = len_to (links_at w s (p - 1)) p

unfoldable pub left_len : (w : ℕ) (s : List ℕ) (p : ℕ) → ℕ
left_len w s p = pick (ltb 0 p) (run_to w s p) 0

-- the run that starts in page q leaves the list
unfoldable pub run_unlinked : (w : ℕ) (s : List ℕ) (q : ℕ) → List ℕ
run_unlinked w s q = unlinked w s 0 (links_at w s q)

-- where its length n is not 0
unfoldable pub run_dropped : (w : ℕ) (s : List ℕ) (n q : ℕ) → List ℕ
run_dropped w s n q = pick (eqb n 0) s (run_unlinked w s q)

unfoldable pub one_of : ℕ → ℕ
one_of n = pick (eqb n 0) 0 1

-- the k pages from p on become inside pages, and so do the last of the a pages before them and the first of the b pages after
unfoldable pub blanked : (w : ℕ) (s : List ℕ) (p k a b : ℕ) → List ℕ
blanked w s p k a b = filled w s (p - one_of a) (wrap (one_of a + k + one_of b)) (plain 0 0 no_page)

-- a run of n pages from t on becomes the head of the list
unfoldable pub run_pushed : (w : ℕ) (s : List ℕ) (t n : ℕ) → List ℕ
run_pushed w s t n = pushed w (backed w s t n) 0 t (plain 1 n no_page)

-- the k pages from p on join the run of b pages right after them and the run of a pages right before them
unfoldable pub joined_run : (w : ℕ) (s : List ℕ) (p k a b : ℕ) → List ℕ
joined_run w s p k a b =
    run_pushed w (blanked w (run_dropped w (run_dropped w s b (wrap (p + k))) a (p - a)) p k a b) (p - a) (wrap (a + k + b))

unfoldable pub pages_released : (w : ℕ) (s : List ℕ) (P p k : ℕ) → List ℕ
pages_released w s P p k = joined_run w (more_free s k) p k (left_len w s p) (right_len w s P (wrap (p + k)))
