-- The free runs counted page by page, and the line in two parts.
use mathlib.Core.Path.{◌≡◌, refl, sym, ◌∙◌}
use mathlib.Core.Bool.{Bool, true, false}
use mathlib.Core.List.{List}
use Prim.Native.Nat.{ℕ, ◌+◌, ◌≤◌}
use native.Mathlib.Numerals.{add-one}
use native.Mathlib.Omega.{arith}
use mir.Val.{bool_byte}
use lib.ListN.{length, length-append}
use Rattle.base.specs.Count.{sum, count}
use Rattle.base.proofs.Count.{count_bound}
use Rattle.rules.specs.Read.{is_head}
use Rattle.rules.specs.Rules.{kind_at}
use Rattle.rules.specs.Bytes.{pages_in, fields_of}
use Rattle.printing.specs.Text.{phrase, line, written}
use Rattle.printing.proofs.Writing.{written_append}
use Rattle.script_summary.specs.Summary.{free_word, runs_word, summary_line, free_runs}

module _ (w : ℕ) (s : List ℕ) (n : ℕ) where
  -- the first pages of free runs below p
  abbrev pub Seen : ℕ → ℕ → Type 0
  Seen p k = k ≡ count (is_head (fields_of w s) n) p

  pub seen_none : Seen 0 0
  unfolding count sum
  seen_none = refl

  pub seen_more : (p k : ℕ) (b : Bool) → Seen p k → b ≡ kind_at (fields_of w s) n 1 p → Seen (p + 1) (k + bool_byte b)
  unfolding count sum is_head kind_at
  seen_more p k true e d = rw (add-one p, e, ← d)
  seen_more p k false e d = rw (add-one p, e, ← d)

  pub seen_few : (p k : ℕ) → Seen p k → k ≤ p
  seen_few p k e = rw e (count_bound (is_head (fields_of w s) n) p)

  pub seen_all : (p k : ℕ) → n ≡ pages_in w s → p ≤ n → n ≤ p → Seen p k → k ≡ free_runs w s
  unfolding free_runs
  seen_all p k d h l e = let z : p ≡ n = omega arith in rw (← d, ← z) (e ∙ rw z)

pub counts_do : (s t u : List ℕ) (n free runs a r : ℕ) →
    (a ≡ n + length (phrase free_word free)) × (t ≡ written s n (phrase free_word free)) × (a ≤ n + 5 + 10) →
    (r ≡ a + length (line runs_word runs)) × (u ≡ written t a (line runs_word runs)) × (r ≤ a + 6 + 11) →
    (r ≡ n + length (summary_line free runs)) × (u ≡ written s n (summary_line free runs))
unfolding summary_line
counts_do s t u n free runs a r (e, f, _) (g, h, _) = (
  rw (length-append (phrase free_word free) (line runs_word runs)) (omega (arith, e, g)),
  h ∙ rw (e, f) (sym (written_append s n (phrase free_word free) (line runs_word runs))),
)
