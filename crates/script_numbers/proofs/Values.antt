-- The value of digits, capped.
use mathlib.Core.Path.{◌≡◌, refl, sym, ◌∙◌}
use mathlib.Core.Bool.{Bool, true, false}
use mathlib.Core.List.{List}
use Prim.Native.Nat.{ℕ, ◌+◌, ◌-◌, ◌*◌, ◌≤◌, ◌<◌}
use native.Mathlib.Numerals.{add-one}
use native.Mathlib.Omega.{arith}
use lib.Dec.{leb}
use lib.ListN.{length, get_or}
use borrow.Author.Rules.{rules}
use borrow.Author.Tests.{le-leb, lt-leb, leb-true, leb-false}
use Rattle.std.specs.Bool.{MatchBool}
use Rattle.std.specs.List.{AllWithin, HoldsAt}
use Rattle.base.specs.Tests.{pick, all_below}
use Rattle.base.proofs.AllBelow.{each_of, all-at, at_all}
use Rattle.script_numbers.specs.Numeral.{value_of, is_number, capped}

pub capped_small : (v : ℕ) → v ≤ 4294967295 → capped v ≡ v
unfolding capped pick
capped_small v h = rw (le-leb v 4294967295 h)

pub capped-large : (v : ℕ) → 4294967295 < v → capped v ≡ 4294967296
unfolding capped pick
capped-large v h = rw (lt-leb v 4294967295 h)

-- a digit more, before or after the cap
pub capped_more : (v d : ℕ) → capped (capped v * 10 + d) ≡ capped (v * 10 + d)
capped_more v d = go (leb v 4294967295) refl
  where
    go : (t : Bool) → leb v 4294967295 ≡ t → capped (capped v * 10 + d) ≡ capped (v * 10 + d)
    go true e = rw (capped_small v (leb-true v 4294967295 e))
    go false e =
        let h : 4294967295 < v = leb-false v 4294967295 e in
        rw (capped-large v h, capped-large (4294967296 * 10 + d) (omega arith), capped-large (v * 10 + d) (omega arith))

pub capped_fits : (v : ℕ) → leb (capped v) 4294967295 ≡ leb v 4294967295
capped_fits v = go (leb v 4294967295) refl
  where
    go : (t : Bool) → leb v 4294967295 ≡ t → leb (capped v) 4294967295 ≡ t
    go true e = rw (capped_small v (leb-true v 4294967295 e)) e
    go false e = rw (capped-large v (leb-false v 4294967295 e))

-- `all` over the bytes of s, as a test of each place
pub all_is : (t : ℕ → Bool) (s : List ℕ) (r : Bool) →
    MatchBool r (AllWithin (λ x. t x ≡ true) s 0 (length s)) ((k : ℕ) × (k < length s) × HoldsAt (λ x. t x ≡ false) s k) →
    r ≡ all_below (λ i. t (get_or s i 0)) (length s)
all_is t s true h = sym (at_all _ _ (λ k l. h k 0 (omega arith) l))
all_is t s false (k, l, h) = go (all_below (λ i. t (get_or s i 0)) (length s)) refl
  where
    go : (b : Bool) → all_below (λ i. t (get_or s i 0)) (length s) ≡ b → false ≡ b
    go false e = refl
    go true e = sym (h 0) ∙ all-at _ _ e k l

module _ (s : List ℕ) where
  pub value_none : 0 ≡ capped (value_of s 0)
  unfolding value_of capped pick
  value_none = refl

  pub value_more : (v i r b : ℕ) → v ≡ capped (value_of s i) → b ≡ get_or s i 0 → r ≡ capped (v * 10 + (b - 48)) → r ≡ capped (value_of s (i + 1))
  unfolding value_of
  value_more v i r b e f g = rw (add-one i, g, e, f) (capped_more (value_of s i) (get_or s i 0 - 48))

  pub value-done : (v i : ℕ) → i ≤ length s → length s ≤ i → v ≡ capped (value_of s i) → v ≡ capped (value_of s (length s))
  value-done v i h k e = let d : i ≡ length s = omega arith in rw (← d) e

  pub number_fits : is_number s ≡ true → value_of s (length s) ≤ 4294967295
  unfolding is_number
  number_fits e = leb-true (value_of s (length s)) 4294967295 (each_of _ e).1.1.1.0

  pub number_is : (r : ℕ) → is_number s ≡ true → r ≡ capped (value_of s (length s)) → r ≡ value_of s (length s)
  number_is r h e = e ∙ capped_small (value_of s (length s)) (number_fits h)

pub ruleset values = (value_none, value_more, value-done, rules)
