-- The list of free runs: the first fit, pages taken from the front of a run, and pages joined with the runs that touch them.
use Rattle.std.specs.Prelude.{Bool, cond, ◌&&◌, not, List, [], ◌∷◌, ◌++◌, ℕ, ◌+◌, ◌-◌, eqb, leb, ltb}
use Rattle.std.proofs.Math.Option.{Option, none, some}
use Rattle.base.specs.Lists.{keep}
use Rattle.model.specs.State.{Run}

-- the first run of at least k pages, in list order and not by address
abbrev pub fit : ℕ → List Run → Option Run
fit k [] = none
fit k (r ∷ rs) = cond (leb k r.len) (some r) (fit k rs)

-- what is left of a run after its front k pages
unfoldable pub cut_front : (k : ℕ) (r : Run) → List Run
cut_front k r = cond (ltb k r.len) (record { start = r.start + k; len = r.len - k } ∷ []) []

-- the list after k pages are taken from the first run that has as many: what remains keeps the run's place
abbrev pub carve : ℕ → List Run → List Run
carve k [] = []
carve k (r ∷ rs) = cond (leb k r.len) (cut_front k r ++ rs) (r ∷ carve k rs)

-- the page after a run
abbrev pub end : Run → ℕ
end r = r.start + r.len

-- the length of the first run whose key is q; 0 where there is none
abbrev pub len_at : (Run → ℕ) → ℕ → List Run → ℕ
len_at key q [] = 0
len_at key q (r ∷ rs) = cond (eqb (key r) q) r.len (len_at key q rs)

-- the length of the run that starts at page q
abbrev pub starts_at : (q : ℕ) (rs : List Run) → ℕ
starts_at q rs = len_at (λ r. r.start) q rs

-- the length of the run that ends just before page q
abbrev pub ends_at : (q : ℕ) (rs : List Run) → ℕ
ends_at q rs = len_at end q rs

-- a run that does not touch the k pages from p on
unfoldable pub clear_of : (p k : ℕ) (r : Run) → Bool
clear_of p k r = not (eqb (r.start + r.len) p) && not (eqb r.start (p + k))

-- the k pages from p on with the runs that touch them
unfoldable pub joined : (p k : ℕ) (rs : List Run) → Run
joined p k rs = record { start = p - ends_at p rs; len = ends_at p rs + k + starts_at (p + k) rs }

-- joined runs leave their places, and the whole becomes the head
unfoldable pub join_runs : (p k : ℕ) (rs : List Run) → List Run
join_runs p k rs = joined p k rs ∷ keep (clear_of p k) rs
