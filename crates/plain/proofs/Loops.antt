-- The steps of loops over a table: what is done before place i, and the rest of the definition from there.
use mathlib.Core.Path.{◌≡◌, refl, sym, ap, ◌∙◌}
use mathlib.Core.Bool.{Bool, true, false}
use mathlib.Core.List.{List, [], ◌∷◌, ◌++◌, append-nil}
use Prim.Native.Nat.{ℕ, zero, suc, ◌+◌, ◌≤◌, ◌<◌}
use native.Mathlib.Nat.{zero-add, add-zero}
use native.Mathlib.Numerals.{add-one}
use native.Mathlib.Omega.{arith}
use lib.ListN.{length, get_or, set, take, drop}
use lib.Seq.{drop-cons, take_all, take-suc-set, drop-set-lt, append_snoc, set_split}
use Rattle.std.proofs.Common.{cond, not, nat_lt, Some, None}
use Rattle.std.proofs.lemmas.Grind.{common_steps}
use Rattle.std.proofs.lemmas.List.Recursion.{is_position_or_len}
use Rattle.std.proofs.lemmas.List.Sums.{prefix_len-le-length}
use Rattle.std.specs.List.{position, position_or_len}
use Rattle.std.specs.Option.{unwrap_or}
use Rattle.base.specs.Tests.{pick}
use Rattle.plain.specs.Arrays.{remade, place_of, pushed}

module _ {A : Type 0} where
  drop-end : (t : List A) (i : ℕ) → length t ≤ i → drop i t ≡ []
  drop-end [] zero h = refl
  drop-end [] (suc i) h = refl
  drop-end (x ∷ t) zero h = absurd (omega arith)
  drop-end (x ∷ t) (suc i) h = drop-end t i (omega arith)

  -- ---- the first entry that passes a test

  module _ (q : A → Bool) (t : List A) (i : ℕ) (e : i + place_of q (drop i t) ≡ place_of q t) where
    pub place_here : (d : A) (b : Bool) → i < length t → b ≡ q (get_or t i d) → b ≡ true → i ≡ place_of q t
    unfolding place_of pick
    place_here d b l f g = rw (drop-cons t i d l, sym f ∙ g, add-zero) at e

    pub place-next : (d : A) (b : Bool) → i < length t → b ≡ q (get_or t i d) → b ≡ false → (i + 1) + place_of q (drop (i + 1) t) ≡ place_of q t
    unfolding place_of pick
    place-next d b l f g =
        let h : i + suc (place_of q (drop (suc i) t)) ≡ place_of q t = rw (drop-cons t i d l, sym f ∙ g) at e in
        rw (add-one i) (omega arith)

    pub place_end : (n : ℕ) → length t ≡ n → i ≤ n → n ≤ i → n ≡ place_of q t
    unfolding place_of
    place_end n l a b = let d : n ≡ i = omega arith in d ∙ (rw (drop-end t i (omega arith), add-zero) at e)

  pub place-start : (q : A → Bool) (t : List A) → 0 + place_of q (drop 0 t) ≡ place_of q t
  place-start q t = zero-add _

  -- std's word for the same place, which `position` answers; n is the table's length
  place-len : (q : A → Bool) (t : List A) → place_of q t ≡ position_or_len q t
  unfolding place_of pick
  place-len q t = is_position_or_len (place_of q) q refl (λ x xs. step (q x) (place_of q xs)) t
    where
      step : (b : Bool) (m : ℕ) → pick b 0 (suc m) ≡ cond b 0 (1 + m)
      step true m = refl
      step false m = omega arith

  pub place-position : (q : A → Bool) (t : List A) (n : ℕ) → length t ≡ n → unwrap_or (position q t) n ≡ place_of q t
  place-position q t n e = go (position_or_len q t) (place-len q t) (prefix_len-le-length (λ x. not (q x)) t)
    where
      go : (m : ℕ) → place_of q t ≡ m → m ≤ length t → unwrap_or (cond (nat_lt m (length t)) (Some m) None) n ≡ place_of q t
      go m f l = grind (arith, common_steps)

  -- ---- every entry passed over

  pub remade-next : (f : ℕ → A → A) (t X : List A) (i : ℕ) (d x : A) → take i t ++ remade f i (drop i t) ≡ X → i < length t → x ≡ f i (get_or t i d)
      → take (i + 1) (set t i x) ++ remade f (i + 1) (drop (i + 1) (set t i x)) ≡ X
  unfolding remade
  remade-next f t X i d x e l g =
      rw (add-one i, take-suc-set t i x l, drop-set-lt (suc i) t i x (omega arith), append_snoc, g) (rw (drop-cons t i d l) at e)

  pub remade-end : (f : ℕ → A → A) (t X : List A) (i : ℕ) → take i t ++ remade f i (drop i t) ≡ X → length t ≤ i → t ≡ X
  unfolding remade
  remade-end f t X i e l = rw (drop-end t i l, take_all i t l, append-nil) at e

  -- ---- a new head

  pub push_here : (empty : A → Bool) (t X : List A) (i : ℕ) (d y : A) → take i t ++ pushed empty y (drop i t) ≡ X → i < length t → empty (get_or t i d) ≡ true → set t i y ≡ X
  unfolding pushed pick
  push_here empty t X i d y e l h = rw (set_split t i y l) (rw (drop-cons t i d l, h) at e)

  pub push-next : (empty : A → Bool) (t X : List A) (i : ℕ) (d y : A) → take i t ++ pushed empty y (drop i t) ≡ X → i < length t → empty (get_or t i d) ≡ false
      → take (i + 1) (set t i y) ++ pushed empty (get_or t i d) (drop (i + 1) (set t i y)) ≡ X
  unfolding pushed pick
  push-next empty t X i d y e l h =
      rw (add-one i, take-suc-set t i y l, drop-set-lt (suc i) t i y (omega arith), append_snoc) (rw (drop-cons t i d l, h) at e)

  pub push-end : (empty : A → Bool) (t X : List A) (i : ℕ) (y : A) → take i t ++ pushed empty y (drop i t) ≡ X → length t ≤ i → t ≡ X
  unfolding pushed
  push-end empty t X i y e l = rw (drop-end t i l, take_all i t l, append-nil) at e

-- ---- what stands in a table that was passed over

module _ {A : Type 0} where
  pub length-remade : (f : ℕ → A → A) (n : ℕ) (t : List A) → length (remade f n t) ≡ length t
  unfolding remade
  length-remade f n [] = refl
  length-remade f n (x ∷ t) = ap suc (length-remade f (suc n) t)

  get_d_from : (f : ℕ → A → A) (n : ℕ) (t : List A) (i : ℕ) (d : A) → i < length t → get_or (remade f n t) i d ≡ f (n + i) (get_or t i d)
  unfolding remade
  get_d_from f n [] i d h = absurd (omega arith)
  get_d_from f n (x ∷ t) zero d h = rw (add-zero n)
  get_d_from f n (x ∷ t) (suc i) d h = let e : n + suc i ≡ suc n + i = omega arith in rw e (get_d_from f (suc n) t i d (omega arith))

  pub get_d_remade : (f : ℕ → A → A) (t : List A) (i : ℕ) (d : A) → i < length t → get_or (remade f 0 t) i d ≡ f i (get_or t i d)
  get_d_remade f t i d h = get_d_from f 0 t i d h ∙ ap (λ (n : ℕ). f n (get_or t i d)) (zero-add i)

  pub get_d_past : (t : List A) (i : ℕ) (d : A) → length t ≤ i → get_or t i d ≡ d
  get_d_past [] i d h = refl
  get_d_past (x ∷ t) zero d h = absurd (omega arith)
  get_d_past (x ∷ t) (suc i) d h = get_d_past t i d (omega arith)
