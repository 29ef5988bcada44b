-- The state of a table of pages, its lists made anew in rising page order.
use Rattle.std.specs.Prelude.{Bool, List, [], ◌∷◌, ℕ, zero, suc, ltb}
use Rattle.base.specs.Lists.{keep}
use Rattle.model.specs.State.{Page, Run, Tally, State, is_idle, is_open}
use Rattle.model.specs.Expected.{stretch_at}
use Rattle.rules.specs.Read.{with_lengths}

-- the k numbers from a on
abbrev pub up_from : (a k : ℕ) → List ℕ
up_from a zero = []
up_from a (suc k) = a ∷ up_from (suc a) k

-- a stretch of free pages, which g tells, starts at page p of P
unfoldable pub starts_run : (P : ℕ) (g : (ℕ → Bool)) (p : ℕ) → Bool
starts_run P g p = ltb 0 (stretch_at P g p)

-- the free runs, in rising page order
unfoldable pub runs_anew : (P : ℕ) (g : (ℕ → Bool)) → List Run
runs_anew P g = with_lengths (stretch_at P g) (keep (starts_run P g) (up_from 0 P))

-- the pages of class c with a clear mark, in rising order
unfoldable pub list_anew : (P : ℕ) (f : (ℕ → Page)) (c : ℕ) → List ℕ
list_anew P f c = keep (λ p. is_open c (f p)) (up_from 0 P)

unfoldable pub remade : (P : ℕ) (f : (ℕ → Page)) (tally : (ℕ → Tally)) → State
remade P f tally = record {
  size = P;
  page = f;
  runs = runs_anew P (λ j. is_idle (f j));
  lists = list_anew P f;
  tally = tally;
}
