-- The page at the place that the scan finds.
use mathlib.Core.Path.{◌≡◌, refl, sym, ap, ◌∙◌}
use mathlib.Core.List.{List, [], ◌∷◌}
use Prim.Native.Nat.{ℕ, zero, suc, ◌<◌}
use native.Mathlib.Omega.{arith}
use lib.ListN.{length, get_or}
use Rattle.plain.proofs.Loops.{get_d_past}

-- past the table's end another default is read
pub at_place : (t : List ℕ) (i j d e x : ℕ) → i < length t → i ≡ j → x ≡ get_or t i d → x ≡ get_or t j e
at_place (y ∷ t) i j d e x l f g = g ∙ same (y ∷ t) i l ∙ ap (λ (k : ℕ). get_or (y ∷ t) k e) f
  where
    same : (t : List ℕ) (i : ℕ) → i < length t → get_or t i d ≡ get_or t i e
    same [] i l = absurd (omega arith)
    same (z ∷ t) zero l = refl
    same (z ∷ t) (suc i) l = same t i (omega arith)
at_place [] i j d e x l f g = absurd (omega arith)

pub past-place : (t : List ℕ) (i n e : ℕ) → length t ≡ n → n ≡ i → e ≡ get_or t i e
past-place t i n e l f = sym (get_d_past t i e (omega arith))
