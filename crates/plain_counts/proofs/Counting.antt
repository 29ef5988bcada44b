-- The steps of loops that count.
use mathlib.Core.Path.{◌≡◌, refl}
use mathlib.Core.Bool.{Bool}
use Prim.Native.Nat.{ℕ, ◌+◌, ◌*◌, ◌≤◌}
use native.Mathlib.Nat.{mul-le-mul}
use native.Mathlib.Numerals.{add-one}
use Rattle.base.specs.Count.{sum, bit, count}
use Rattle.model.specs.Classes.{chunks}
use Rattle.plain.proofs.Bytes.{chunks-most}

pub sum_none : (h : ℕ → ℕ) → sum h 0 ≡ 0
unfolding sum
sum_none h = refl

pub sum_more : (h : ℕ → ℕ) (i : ℕ) → sum h (i + 1) ≡ sum h i + h i
unfolding sum
sum_more h i = rw (add-one i)

pub count_none : (q : ℕ → Bool) → count q 0 ≡ 0
unfolding count
count_none q = sum_none _

pub count_more : (q : ℕ → Bool) (i : ℕ) → count q (i + 1) ≡ count q i + bit (q i)
unfolding count
count_more q i = sum_more _ i

pub ruleset counting = (sum_none, sum_more, count_none, count_more)

-- ---- bounds

pub count_most : (r c : ℕ) → r ≡ chunks c → r ≤ 512
count_most r c e = rw e (chunks-most c)

pub total_fits : (n each : ℕ) → n ≤ 12 → each ≤ 65535 → n * each ≤ 786420
total_fits n each l u = mul-le-mul l u
