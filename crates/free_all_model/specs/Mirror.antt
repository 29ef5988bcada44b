-- The list tried on the pages themselves, in one pass and without a second pool.
-- A chunk that would be freed has its mark cleared and its page kept; a run that would be freed is flagged. All of it is taken back at the end.
use Rattle.std.specs.Prelude.{Bool, true, false, cond, List, [], ◌∷◌, ℕ, zero, suc, ◌*◌, ◌/◌, ◌%◌, eqb}
use Rattle.base.specs.Functions.{upd}
use Rattle.model.specs.Classes.{chunk, has_taken, starts_chunk}
use Rattle.model.specs.State.{Page, idle, slab, taken, inside, edge, State}
use Rattle.model.specs.Calls.{Answer, freed, no, outside, not_taken, not_a_start}
use Rattle.free_all_model.specs.FreeAll.{Completion, done, onward}

-- the tentative pages
pub record Trial : Type 0 where
  pub page : ℕ → Page
  pub flag : ℕ → Bool  -- the run that begins here is given back

unfoldable pub begun : State → Trial
begun s = record { page = s.page; flag = λ p. false }

-- ---- what the single frees would have left: an emptied class page and the pages of a flagged run are free

abbrev pub is_first : Page → Bool
is_first idle = false
is_first (slab c m) = false
is_first (taken n) = true
is_first inside = false
is_first edge = false

-- the nearest first page of a taken run below page j
unfoldable pub first_below : (ℕ → Page) → ℕ → ℕ
first_below f zero = zero
first_below f (suc j) = cond (is_first (f j)) j (first_below f j)

unfoldable pub settled_page : Trial → ℕ → Page → Page
settled_page t p idle = idle
settled_page t p (slab c m) = cond (has_taken c m) (slab c m) idle
settled_page t p (taken n) = cond (t.flag p) idle (taken n)
settled_page t p inside = cond (t.flag (first_below t.page p)) idle inside
settled_page t p edge = edge

unfoldable pub settled : Trial → ℕ → Page
settled t p = settled_page t p (t.page p)

-- ---- one offset

-- q bytes into page p, tentatively x. A page's marks are looked through, and a run's first page looked for, only where the offset is refused.
unfoldable pub tried_at : Trial → ℕ → ℕ → Page → Answer
tried_at t p q idle = no not_taken
tried_at t p q (slab c m) =
    cond (starts_chunk c q)
    (cond (m (q / chunk c)) (freed (chunk c)) (no not_taken))
    (cond (has_taken c m) (no not_a_start) (no not_taken))
tried_at t p q (taken n) =
    cond (t.flag p) (no not_taken)
    (cond (eqb q 0) (freed (4096 * n)) (no not_a_start))
tried_at t p q inside = cond (t.flag (first_below t.page p)) (no not_taken) (no not_a_start)
tried_at t p q edge = no outside

unfoldable pub tried : Trial → ℕ → Answer
tried t off = tried_at t (off / 4096) (off % 4096) (t.page (off / 4096))

-- the block there is tentatively freed: its mark is cleared, or its run flagged
unfoldable pub tentative_at : Trial → ℕ → ℕ → Page → Trial
tentative_at t p q idle = t
tentative_at t p q (slab c m) = record { page = upd t.page p (slab c (upd m (q / chunk c) false)); flag = t.flag }
tentative_at t p q (taken n) = record { page = t.page; flag = upd t.flag p true }
tentative_at t p q inside = t
tentative_at t p q edge = t

unfoldable pub tentative : Trial → ℕ → Trial
tentative t off = tentative_at t (off / 4096) (off % 4096) (t.page (off / 4096))

-- ---- a list of offsets, the first of which has place k

unfoldable pub tried_from : Trial → ℕ → List ℕ → Completion
tried_from t k [] = done
tried_from t k (off ∷ offs) = onward k (tried t off) (tried_from (tentative t off) (suc k) offs)

-- the tentative pages after offsets that were all granted
unfoldable pub tried_all : Trial → List ℕ → Trial
tried_all t [] = t
tried_all t (off ∷ offs) = tried_all (tentative t off) offs
