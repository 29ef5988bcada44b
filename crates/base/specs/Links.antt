-- A doubly linked list of pages, as next and previous show it.
-- z stands for no page; hd, which is no page of the list, for the place that holds its first page: the next of hd is the first page.
use Rattle.std.specs.Prelude.{◌≡◌, Bool, cond, not, List, [], ◌∷◌, ℕ, eqb}
use Rattle.base.specs.Lists.{Mem}

abbrev pub head_or : ℕ → List ℕ → ℕ
head_or z [] = z
head_or z (x ∷ xs) = x

-- the page after x
abbrev pub next_in : ℕ → ℕ → List ℕ → ℕ
next_in z x [] = z
next_in z x (y ∷ ys) = cond (eqb y x) (head_or z ys) (next_in z x ys)

-- the page before x, where b stands before the list
abbrev pub prev_from : ℕ → ℕ → ℕ → List ℕ → ℕ
prev_from z b x [] = z
prev_from z b x (y ∷ ys) = cond (eqb y x) b (prev_from z y x ys)

-- every page but p: `keep (others p) xs` is the list without p
unfoldable pub others : (p q : ℕ) → Bool
others p q = not (eqb q p)

-- t in the place of r
abbrev pub replace : ℕ → ℕ → List ℕ → List ℕ
replace r t [] = []
replace r t (y ∷ ys) = cond (eqb y r) (t ∷ ys) (y ∷ replace r t ys)

-- where the page after q is stored: with q, or at the head where q is no page
abbrev pub node : (z hd q : ℕ) → ℕ
node z hd q = cond (eqb q z) hd q

-- next and previous show the list xs, entered at hd
pub record Linked (z hd : ℕ) (nx pv : ℕ → ℕ) (xs : List ℕ) : Type 0 where
  pub nexts : (q : ℕ) → Mem q (hd ∷ xs) → nx q ≡ next_in z q (hd ∷ xs)
  pub prevs : (q : ℕ) → Mem q xs → pv q ≡ prev_from z z q xs
