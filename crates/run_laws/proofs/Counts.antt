-- How many pages are free after k pages change.
use mathlib.Core.Path.{◌≡◌, refl, ap}
use mathlib.Core.Logic.{◌⊎◌, inl, inr}
use mathlib.Core.Bool.{Bool, true, false}
use Prim.Native.Nat.{ℕ, zero, suc, ◌+◌, ◌-◌, ◌≤◌, ◌<◌}
use native.Mathlib.Omega.{arith}
use Rattle.base.specs.Count.{sum, bit, count}
use Rattle.base.proofs.Cases.{lt?, Out}
use Rattle.model.specs.State.{Page, is_idle}
use Rattle.rules.specs.Rules.{free_in}

-- f' fails at the k places from a on, where f holds, and is f elsewhere
module _ (f f' : ℕ → Bool) (a k : ℕ) (were : (j : ℕ) → a ≤ j → j < a + k → f j ≡ true) (are : (j : ℕ) → a ≤ j → j < a + k → f' j ≡ false)
    (same : (j : ℕ) → Out a k j → f' j ≡ f j) where
  -- before, within and past these places
  record Up (n : ℕ) : Type 0 where
    before : n ≤ a → count f' n ≡ count f n
    inside : a ≤ n → n ≤ a + k → count f' n + (n - a) ≡ count f n
    past : a + k ≤ n → count f' n + k ≡ count f n

  up : (n : ℕ) → Up n
  unfolding count sum
  up zero = record { before = λ h. refl; inside = λ h l. omega arith; past = λ h. omega arith }
  up (suc n) = go (up n)
    where
      go : Up n → Up (suc n)
      go U = record {
        before = λ h. let e = ap bit (same n (inl (omega arith))) in omega (arith, U.before (omega arith));
        inside = λ h l. mid h l (lt? n a);
        past = λ h. high h (lt? n (a + k)) (lt? n a);
      }
        where
          mid : a ≤ suc n → suc n ≤ a + k → (n < a) ⊎ (a ≤ n) → count f' n + bit (f' n) + (suc n - a) ≡ count f n + bit (f n)
          mid h l (inl u) = let e = ap bit (same n (inl u)) in omega (arith, U.before (omega arith))
          mid h l (inr u) = let e = ap bit (were n u (omega arith)) in let d = ap bit (are n u (omega arith)) in omega (arith, U.inside u (omega arith))

          high : a + k ≤ suc n → (n < a + k) ⊎ (a + k ≤ n) → (n < a) ⊎ (a ≤ n) → count f' n + bit (f' n) + k ≡ count f n + bit (f n)
          high h (inl v) (inl u) = let e = ap bit (same n (inl u)) in omega (arith, U.before (omega arith))
          high h (inl v) (inr u) = let e = ap bit (were n u v) in let d = ap bit (are n u v) in omega (arith, U.inside u (omega arith))
          high h (inr v) _ = let e = ap bit (same n (inr v)) in omega (arith, U.past v)

  count_fewer : (n : ℕ) → a + k ≤ n → count f' n + k ≡ count f n
  count_fewer n h = (up n).past h

-- k pages from a on that were free are not
pub free_fewer : (page page' : ℕ → Page) (a k P : ℕ) → ((q : ℕ) → a ≤ q → q < a + k → is_idle (page q) ≡ true)
    → ((q : ℕ) → a ≤ q → q < a + k → is_idle (page' q) ≡ false) → ((q : ℕ) → Out a k q → page' q ≡ page q) → a + k ≤ P → free_in page' P + k ≡ free_in page P
unfolding free_in
free_fewer page page' a k P were are same h = count_fewer (λ j. is_idle (page j)) (λ j. is_idle (page' j)) a k were are (λ q o. ap is_idle (same q o)) P h
