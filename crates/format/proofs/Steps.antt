-- The steps of the loop that sets words.
use mathlib.Core.Path.{◌≡◌, refl, ◌∙◌}
use mathlib.Core.List.{List}
use Prim.Native.Nat.{ℕ, ◌+◌, ◌*◌, ◌≤◌}
use native.Mathlib.Numerals.{add-one}
use native.Mathlib.Omega.{arith}
use borrow.Author.Rules.{rules}
use Rattle.words.specs.Word.{set_word}
use Rattle.image.specs.Image.{write_at}
use Rattle.format.specs.Mirror.{filled}

pub fill_none : (s : List ℕ) (from step v : ℕ) → s ≡ filled s from step 0 v
unfolding filled write_at
fill_none s from step v = refl

pub fill_one : (s t u : List ℕ) (from step i v k : ℕ) → t ≡ filled s from step i v → k ≡ from + step * i → u ≡ set_word t k v
    → u ≡ filled s from step (i + 1) v
unfolding filled write_at
fill_one s t u from step i v k e f g = rw (add-one i) (g ∙ rw (e, f))

pub fill-all : (s t : List ℕ) (from step i n v : ℕ) → t ≡ filled s from step i v → i ≤ n → n ≤ i → t ≡ filled s from step n v
fill-all s t from step i n v e a b = let d : i ≡ n = omega arith in rw (← d) e

pub ruleset fills = (fill_none, fill_one, fill-all, rules)
