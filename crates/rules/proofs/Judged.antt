-- Validation tells the first rule that does not hold: the tests of `specs/Bytes.antt` in their order, and each test's plain form.
use mathlib.Core.Path.{◌≡◌, refl}
use mathlib.Core.Logic.{◌⊎◌, inl, inr, ◌≢◌, ◌↔◌}
use mathlib.Core.Bool.{Bool, true, false}
use mathlib.Core.List.{List}
use Prim.Native.Nat.{ℕ, zero, suc, ◌+◌, ◌≤◌, ◌<◌}
use native.Mathlib.Omega.{arith}
use Rattle.base.specs.Tests.{pick}
use Rattle.base.proofs.Cases.{clash, decided, eq?, lt?}
use Rattle.rules.specs.Rules.{rule2, rule3, rule4, rule5}
use Rattle.rules.specs.Bytes.{pages_in, fields_of, rule1, counts_and_peaks, broken_rule}
use Rattle.rules.specs.Judged.{Rule, Judge}
use Rattle.rules.proofs.Rule1.{rule1-says, rule1_iff}
use Rattle.rules.proofs.Rule2.{rule2_iff}
use Rattle.rules.proofs.Rules.{rule3_iff, rule4_iff, rule5_iff}
use Rattle.rules.proofs.Peaks.{counts_and_peaks_iff}

-- ---- the first test that fails

-- of the n tests from k on; 0 where none does
abbrev first_off : (ℕ → Bool) → ℕ → ℕ → ℕ
first_off t zero k = 0
first_off t (suc n) k = pick (t k) (first_off t n (suc k)) k

module _ (t : ℕ → Bool) where
  -- the tests from k on, up to n, hold
  abbrev Hold : ℕ → ℕ → Type 0
  Hold k n = (j : ℕ) → k ≤ j → j < n → t j ≡ true

  record Fails (k n r : ℕ) : Type 0 where
    low : k ≤ r
    high : r < n
    before : Hold k r
    off : t r ≡ false

  -- one test more in front
  more : (k n : ℕ) → t k ≡ true → Hold (suc k) n → Hold k n
  more k n e h j a b = go (eq? j k)
    where
      go : (j ≡ k) ⊎ (j ≢ k) → t j ≡ true
      go (inl z) = rw z e
      go (inr z) = h j (omega arith) b

  told : (n k : ℕ) → ((first_off t n k ≡ 0) × Hold k (k + n)) ⊎ Fails k (k + n) (first_off t n k)
  unfolding pick
  told zero k = inl (refl, λ j a b. absurd (omega arith))
  told (suc n) k = go (t k) refl (told n (suc k))
    where
      go : (u : Bool) → t k ≡ u → ((first_off t n (suc k) ≡ 0) × Hold (suc k) (suc k + n)) ⊎ Fails (suc k) (suc k + n) (first_off t n (suc k)) →
          ((pick u (first_off t n (suc k)) k ≡ 0) × Hold k (k + suc n)) ⊎ Fails k (k + suc n) (pick u (first_off t n (suc k)) k)
      go true e (inl (z, h)) = inl (z, more k (k + suc n) e (λ j a b. h j a (omega arith)))
      go true e (inr F) =
          inr (record { low = omega (arith, F.low); high = omega (arith, F.high); before = more k _ e F.before; off = F.off })
      go false e x = inr (record { low = omega arith; high = omega arith; before = λ j a b. absurd (omega arith); off = e })

-- ---- the six rules

module _ (w : ℕ) (s : List ℕ) where
  test : ℕ → Bool
  test zero = true
  test (suc zero) = rule1 w s
  test (suc (suc zero)) = rule2 (fields_of w s) (pages_in w s)
  test (suc (suc (suc zero))) = rule3 (fields_of w s) (pages_in w s)
  test (suc (suc (suc (suc zero)))) = rule4 (fields_of w s) (pages_in w s)
  test (suc (suc (suc (suc (suc zero))))) = rule5 (fields_of w s) (pages_in w s)
  test (suc (suc (suc (suc (suc (suc zero)))))) = counts_and_peaks w s
  test (suc (suc (suc (suc (suc (suc (suc k))))))) = true

  -- rule 1 bounds the pages that the other rules speak of
  tested : (k : ℕ) → (1 < k → rule1 w s ≡ true) → (test k ≡ true) ↔ Rule w s k
  unfolding test
  tested zero one = (λ _. tt, λ _. refl)
  tested (suc zero) one = rule1_iff w s
  tested (suc (suc zero)) one = rule2_iff (fields_of w s) (pages_in w s)
  tested (suc (suc (suc zero))) one = rule3_iff (fields_of w s) (pages_in w s) (omega (arith, (rule1-says w s (one (omega arith))).few))
  tested (suc (suc (suc (suc zero)))) one = rule4_iff (fields_of w s) (pages_in w s) (omega (arith, (rule1-says w s (one (omega arith))).few))
  tested (suc (suc (suc (suc (suc zero))))) one = rule5_iff (fields_of w s) (pages_in w s)
  tested (suc (suc (suc (suc (suc (suc zero)))))) one = counts_and_peaks_iff w s
  tested (suc (suc (suc (suc (suc (suc (suc k))))))) one = (λ _. tt, λ _. refl)

  first-is : broken_rule w s ≡ first_off test 6 1
  unfolding broken_rule test
  first-is = refl

  abbrev Told : ℕ → Type 0
  Told r = ((r ≡ 0) × Hold test 1 7) ⊎ Fails test 1 7 r

  told_rule : Told (broken_rule w s)
  told_rule = rw first-is (told test 6 1)

  -- tests and rules up to k
  held : (k : ℕ) → Hold test 1 k → (j : ℕ) → 1 ≤ j → j < k → Rule w s j
  unfolding test
  held k h j a b = (tested j (λ l. h 1 (omega arith) (omega arith))).0 (h j a b)

  hold : (k : ℕ) → ((j : ℕ) → 1 ≤ j → j < k → Rule w s j) → Hold test 1 k
  unfolding test
  hold k f j a b = (tested j (λ l. (rule1_iff w s).1 (f 1 (omega arith) (omega arith)))).1 (f j a b)

  module _ (k : ℕ) (some : 1 ≤ k) (before : Hold test 1 k) where
    one : 1 < k → rule1 w s ≡ true
    unfolding test
    one l = before 1 (omega arith) l

    fails : test k ≡ false → ¬ Rule w s k
    fails e R = clash ((tested k one).1 R) e

    failed : ¬ Rule w s k → test k ≡ false
    failed n = decided (test k) (λ e. n ((tested k one).0 e))

  all-six : (r : ℕ) → Told r → (r ≡ 0) ↔ ((j : ℕ) → 1 ≤ j → j < 7 → Rule w s j)
  all-six r (inl (z, h)) = (λ _. held 7 h, λ _. z)
  all-six r (inr F) = (λ e. absurd (omega (arith, F.low)), λ f. absurd (clash (hold 7 f r F.low F.high) F.off))

  first-broken : (r k : ℕ) → 1 ≤ k → k ≤ 6 → Told r → (r ≡ k) ↔ (((j : ℕ) → 1 ≤ j → j < k → Rule w s j) × (¬ Rule w s k))
  first-broken r k a b (inl (z, h)) =
      (λ e. absurd (omega arith), λ (f, n). absurd (n (held 7 h k a (omega arith))))
  first-broken r k a b (inr F) = (there, back)
    where
      there : r ≡ k → ((j : ℕ) → 1 ≤ j → j < k → Rule w s j) × (¬ Rule w s k)
      there e = rw (← e) (held r F.before, fails r F.low F.before F.off)

      back : ((j : ℕ) → 1 ≤ j → j < k → Rule w s j) × (¬ Rule w s k) → r ≡ k
      back (f, n) = go (lt? r k) (lt? k r)
        where
          go : (r < k) ⊎ (k ≤ r) → (k < r) ⊎ (r ≤ k) → r ≡ k
          go (inl l) y = absurd (clash (hold k f r F.low l) F.off)
          go (inr l) (inl y) = absurd (clash (F.before k a y) (failed k a (hold k f) n))
          go (inr l) (inr y) = omega arith

  at_most : (r : ℕ) → Told r → r ≤ 6
  at_most r (inl (z, h)) = omega arith
  at_most r (inr F) = omega (arith, F.high)

  six : ((j : ℕ) → 1 ≤ j → j < 7 → Rule w s j) ↔ (Rule w s 1 × Rule w s 2 × Rule w s 3 × Rule w s 4 × Rule w s 5 × Rule w s 6)
  six = (
    λ f. (f 1 (omega arith) (omega arith), f 2 (omega arith) (omega arith), f 3 (omega arith) (omega arith), f 4 (omega arith) (omega arith), f 5 (omega arith) (omega arith), f 6 (omega arith) (omega arith)),
    λ (a, b, c, d, e, f). each a b c d e f,
  )
    where
      each : Rule w s 1 → Rule w s 2 → Rule w s 3 → Rule w s 4 → Rule w s 5 → Rule w s 6 → (j : ℕ) → 1 ≤ j → j < 7 → Rule w s j
      each a b c d e f zero h l = tt
      each a b c d e f (suc zero) h l = a
      each a b c d e f (suc (suc zero)) h l = b
      each a b c d e f (suc (suc (suc zero))) h l = c
      each a b c d e f (suc (suc (suc (suc zero)))) h l = d
      each a b c d e f (suc (suc (suc (suc (suc zero))))) h l = e
      each a b c d e f (suc (suc (suc (suc (suc (suc zero)))))) h l = f
      each a b c d e f (suc (suc (suc (suc (suc (suc (suc k))))))) h l = tt

pub judged : Judge
judged w s =
    let A = all-six w s (broken_rule w s) (told_rule w s) in
    record {
      sound = (λ e. (six w s).0 (A.0 e), λ x. A.1 ((six w s).1 x));
      broken = λ k a b. first-broken w s (broken_rule w s) k a b (told_rule w s);
      known = at_most w s (broken_rule w s) (told_rule w s);
    }
