-- Records copied and read back.
use mathlib.Core.Path.{◌≡◌, refl, ap, ◌∙◌}
use mathlib.Core.Logic.{inl, inr}
use mathlib.Core.List.{List, [], ◌∷◌}
use Prim.Native.Nat.{ℕ, zero, suc, ◌+◌, ◌≤◌, ◌<◌}
use native.Mathlib.Omega.{arith}
use lib.ListN.{length, get_or}
use Rattle.base.specs.Functions.{upd}
use Rattle.base.proofs.Cases.{Out}
use Rattle.base.proofs.Functions.{upd_same, upd_other}
use Rattle.keeper_model.specs.Store.{bytes_at, copied}

pub bytes_ext : (b c : ℕ → ℕ) (a n : ℕ) → ((j : ℕ) → a ≤ j → j < a + n → b j ≡ c j) → bytes_at b a n ≡ bytes_at c a n
unfolding bytes_at
bytes_ext b c a zero e = refl
bytes_ext b c a (suc n) e = rw (e a (omega arith) (omega arith), bytes_ext b c (suc a) n (λ j l u. e j (omega arith) (omega arith)))

pub copied_out : (b : ℕ → ℕ) (a : ℕ) (r : List ℕ) (j : ℕ) → Out a (length r) j → copied b a r j ≡ b j
unfolding copied
copied_out b a [] j h = refl
copied_out b a (x ∷ r) j (inl h) = rw (upd_other (copied b (suc a) r) a x j (omega arith)) (copied_out b (suc a) r j (inl (omega arith)))
copied_out b a (x ∷ r) j (inr h) = rw (upd_other (copied b (suc a) r) a x j (omega arith)) (copied_out b (suc a) r j (inr (omega arith)))

pub copied-inside : (b : ℕ → ℕ) (a : ℕ) (r : List ℕ) (i : ℕ) → i < length r → copied b a r (a + i) ≡ get_or r i 0
unfolding copied
copied-inside b a [] i l = absurd (omega arith)
copied-inside b a (x ∷ r) zero l = let z : a + 0 ≡ a = omega arith in rw z (upd_same (copied b (suc a) r) a x)
copied-inside b a (x ∷ r) (suc i) l =
    let z : a + suc i ≡ suc a + i = omega arith in
    rw z (upd_other (copied b (suc a) r) a x (suc a + i) (omega arith) ∙ copied-inside b (suc a) r i (omega arith))

pub copied-back : (b : ℕ → ℕ) (a : ℕ) (r : List ℕ) → bytes_at (copied b a r) a (length r) ≡ r
unfolding bytes_at copied
copied-back b a [] = refl
copied-back b a (x ∷ r) =
    rw (upd_same (copied b (suc a) r) a x, bytes_ext (upd (copied b (suc a) r) a x) (copied b (suc a) r) (suc a) (length r) (λ j l u. upd_other (copied b (suc a) r) a x j (omega arith)))
    (ap (λ (l : List ℕ). x ∷ l) (copied-back b (suc a) r))
