-- Where the first line of an input ends.
use mathlib.Core.Path.{◌≡◌, ◌∙◌, ap}
use mathlib.Core.Logic.{◌⊎◌, inl, inr, ◌≢◌}
use mathlib.Core.List.{List, [], ◌∷◌}
use Prim.Native.Nat.{ℕ, zero, suc, ◌+◌, ◌-◌, ◌≤◌, ◌<◌}
use native.Mathlib.Omega.{arith}
use lib.ListN.{length, get_or, take, drop, length-drop}
use lib.Seq.{get_or-drop, drop-drop}
use borrow.Author.Tests.{eq-eqb, ne_eqb}
use Rattle.base.proofs.Cases.{eq?}
use Rattle.script_lines.specs.Lines.{lines}

-- no newline stands from one place up to another
unfoldable pub Plain : List ℕ → ℕ → ℕ → Type 0
Plain s a e = (i : ℕ) → a ≤ i → i < e → get_or s i 0 ≢ 10

-- the first line is the first n bytes: a newline follows, or nothing does
pub split : (s : List ℕ) (n : ℕ) → ((i : ℕ) → i < n → get_or s i 0 ≢ 10) → ((n < length s) × (get_or s n 0 ≡ 10)) ⊎ ((0 < n) × (n ≡ length s)) →
    lines s ≡ take n s ∷ lines (drop (suc n) s)
split [] n p (inl h) = absurd (omega (arith, h.0))
split [] n p (inr h) = absurd (omega (arith, h.0, h.1))
split (b ∷ s) zero p (inl h) = rw (eq-eqb b 10 h.1)
split (b ∷ s) zero p (inr h) = absurd (omega (arith, h.0))
split (b ∷ s) (suc n) p (inl h) =
    rw (ne_eqb b 10 (p 0 (omega arith)), split s n (λ i l. p (suc i) (omega arith)) (inl (omega (arith, h.0), h.1)))
split (b ∷ []) (suc zero) p (inr h) = rw (ne_eqb b 10 (p 0 (omega arith)))
split (b ∷ []) (suc (suc n)) p (inr h) = absurd (omega (arith, h.1))
split (b ∷ c ∷ s) (suc n) p (inr h) =
    rw (ne_eqb b 10 (p 0 (omega arith)), split (c ∷ s) n (λ i l. p (suc i) (omega arith)) (inr (omega (arith, h.1), omega (arith, h.1))))

module _ (s : List ℕ) (a : ℕ) where
  pub plain-none : Plain s a a
  unfolding Plain
  plain-none i h l = absurd (omega arith)

  pub plain_more : (e b : ℕ) → Plain s a e → b ≡ get_or s e 0 → b ≢ 10 → Plain s a (e + 1)
  unfolding Plain
  plain_more e b p d n i h l = go (eq? i e)
    where
      go : (i ≡ e) ⊎ (i ≢ e) → get_or s i 0 ≢ 10
      go (inl z) = rw (z, ← d) n
      go (inr z) = p i h (omega arith)

  pub line_splits : (e : ℕ) → a ≤ e → Plain s a e → ((e < length s) × (get_or s e 0 ≡ 10)) ⊎ ((a < e) × (e ≡ length s)) →
      lines (drop a s) ≡ take (e - a) (drop a s) ∷ lines (drop (e + 1) s)
  unfolding Plain
  line_splits e h p x =
      let place : a + suc (e - a) ≡ e + 1 = omega arith in
      let past : drop (suc (e - a)) (drop a s) ≡ drop (e + 1) s = drop-drop (suc (e - a)) a s ∙ ap (λ (n : ℕ). drop n s) place in
      rw (← past) (split (drop a s) (e - a) (λ i l. rw (get_or-drop a s i 0) (p (a + i) (omega arith) (omega arith))) (ended x))
    where
      ended : ((e < length s) × (get_or s e 0 ≡ 10)) ⊎ ((a < e) × (e ≡ length s)) →
          ((e - a < length (drop a s)) × (get_or (drop a s) (e - a) 0 ≡ 10)) ⊎ ((0 < e - a) × (e - a ≡ length (drop a s)))
      ended (inl y) =
          let z : a + (e - a) ≡ e = omega arith in
          inl (rw (length-drop a s) (omega (arith, y.0)), rw (get_or-drop a s (e - a) 0, z) y.1)
      ended (inr y) = inr (omega (arith, y.0), rw (length-drop a s) (omega (arith, y.1)))
