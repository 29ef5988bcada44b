-- The steps of the two loops: pages filled, and first fit.
use mathlib.Core.Path.{◌≡◌, refl, ◌∙◌}
use mathlib.Core.List.{List}
use Prim.Native.Nat.{ℕ, zero, suc, ◌+◌, ◌≤◌, ◌<◌}
use native.Mathlib.Numerals.{add-one}
use native.Mathlib.Omega.{arith}
use borrow.Author.Rules.{rules}
use borrow.Author.Tests.{eq-eqb, ne_eqb, le-leb, lt-leb}
use Rattle.base.specs.Tests.{pick}
use Rattle.records.specs.Layout.{no_page}
use Rattle.records.specs.declared.Header.{Header}
use Rattle.records.specs.declared.Links.{Links}
use Rattle.records.specs.Header.{header_at}
use Rattle.records.specs.Page.{links_at, with_links}
use Rattle.run_extents.specs.Mirror.{wrap, filled, fit_from, fit_in}

-- ---- fill

pub fill_none : (w : ℕ) (s : List ℕ) (p : ℕ) (l : Links) → s ≡ filled w s p 0 l
unfolding filled
fill_none w s p l = refl

pub fill_one : (w : ℕ) (s t u : List ℕ) (p i q : ℕ) (l : Links) → t ≡ filled w s p i l → q ≡ wrap (p + i) → u ≡ with_links w t q l
    → u ≡ filled w s p (i + 1) l
unfolding filled
fill_one w s t u p i q l e f g = rw (add-one i) (g ∙ rw (e, f))

pub fill-all : (w : ℕ) (s t : List ℕ) (p i n : ℕ) (l : Links) → t ≡ filled w s p i l → i ≤ n → n ≤ i → t ≡ filled w s p n l
fill-all w s t p i n l e a b = let d : i ≡ n = omega arith in rw (← d) e

pub ruleset fills = (fill_none, fill_one, fill-all, rules)

-- ---- first fit

pub fit-start : (w : ℕ) (s : List ℕ) (i P k : ℕ) (h : Header) → h ≡ header_at s → i ≡ P → fit_from w s i k h.first_run.0 ≡ fit_in w s P k
unfolding fit_in
fit-start w s i P k h e d = rw (e, d)

pub fit_over : (w : ℕ) (s : List ℕ) (i k p x : ℕ) → i ≤ 0 → fit_from w s i k p ≡ x → no_page ≡ x
unfolding fit_from
fit_over w s zero k p x h e = e
fit_over w s (suc i) k p x h e = absurd (omega arith)

pub fit-end : (w : ℕ) (s : List ℕ) (i k p x : ℕ) → p ≡ no_page → fit_from w s i k p ≡ x → no_page ≡ x
unfolding fit_from pick
fit-end w s zero k p x h e = e
fit-end w s (suc i) k p x h e = rw (eq-eqb p no_page h) at e

module _ (w : ℕ) (s : List ℕ) (k p x : ℕ) (l : Links) (page : p ≡ no_page → ⊥) (read : l ≡ links_at w s p) where
  pub fit_here : (i : ℕ) → 0 < i → k ≤ l.run → fit_from w s i k p ≡ x → p ≡ x
  unfolding fit_from pick
  fit_here zero h r e = absurd (omega arith)
  fit_here (suc i) h r e = rw (ne_eqb p no_page page, ← read, le-leb k l.run r) at e

  pub fit_next : (i j : ℕ) → i ≡ suc j → l.run < k → fit_from w s i k p ≡ x → fit_from w s j k l.next.0 ≡ x
  unfolding fit_from pick
  fit_next i j d r e = rw (ne_eqb p no_page page, ← read, lt-leb k l.run r) at (rw d at e)

pub ruleset fits = (fit-start, fit_over, fit-end, fit_here, fit_next, rules)
