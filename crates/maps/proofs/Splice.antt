-- A part of a list replaced: its length, its elements, and what a part that was lent and came back leaves.
use mathlib.Core.Path.{◌≡◌, ap, ◌∙◌}
use mathlib.Core.Logic.{inl, inr, ⊎_elim}
use mathlib.Core.List.{List, ◌++◌}
use Prim.Native.Nat.{ℕ, ◌+◌, ◌-◌, ◌≤◌, ◌<◌}
use native.Mathlib.Omega.{arith}
use lib.ListN.{length, take, drop, get_or, length-append, length-drop, get_or-append}
use lib.Seq.{drop-drop, length-take-le, get_or-append-add, get_or-take, get_or-drop}
use Rattle.base.proofs.Cases.{Out, in?}
use Rattle.words.specs.Word.{Bytes}
use Rattle.maps.specs.Mirror.{splice}

-- the list that a lent part from at to e came back to, as the borrow checker has it
pub splice_lent : (s ys : List ℕ) (at e : ℕ) → at ≤ e → length ys ≡ e - at → take at s ++ (ys ++ drop (e - at) (drop at s)) ≡ splice s at ys
unfolding splice
splice_lent s ys at e h l = simp (drop-drop, ← l)

pub part_length : (s : List ℕ) (at e : ℕ) → at ≤ e → e ≤ length s → length (take (e - at) (drop at s)) ≡ e - at
part_length s at e h k = length-take-le (e - at) (drop at s) (simp length-drop (omega arith))

module _ (s ys : List ℕ) (at : ℕ) (fits : at + length ys ≤ length s) where
  front : length (take at s) ≡ at
  front = length-take-le at s (omega arith)

  pub length-splice : length (splice s at ys) ≡ length s
  unfolding splice
  length-splice = simp (length-append, length-drop) (omega (arith, front))

  pub splice-inside : (j : ℕ) → j < length ys → get_or (splice s at ys) (at + j) 0 ≡ get_or ys j 0
  unfolding splice
  splice-inside j h =
      let e : at + j ≡ length (take at s) + j = omega (arith, front) in
      rw (e, get_or-append-add (take at s) _ j 0) (get_or-append ys _ 0 j h)

  pub splice-outside : (j : ℕ) → Out at (length ys) j → get_or (splice s at ys) j 0 ≡ get_or s j 0
  unfolding splice
  splice-outside j (inl h) = get_or-append (take at s) _ 0 j (omega (arith, front)) ∙ get_or-take at s j 0 h
  splice-outside j (inr h) =
      let k : ℕ = j - at - length ys in
      let e : j ≡ length (take at s) + (length ys + k) = omega (arith, front) in
      let f : at + length ys + k ≡ j = omega arith in
      ap (λ (x : ℕ). get_or (splice s at ys) x 0) e ∙ get_or-append-add (take at s) _ (length ys + k) 0 ∙ get_or-append-add ys _ k 0 ∙ get_or-drop (at + length ys) s k 0
      ∙ ap (λ (x : ℕ). get_or s x 0) f

  pub splice-bytes : Bytes s → Bytes ys → Bytes (splice s at ys)
  splice-bytes B Y j = ⊎_elim
      (λ (h : (at ≤ j) × (j < at + length ys)).
      let e : j ≡ at + (j - at) = omega arith in
      rw (e, splice-inside (j - at) (omega arith)) (Y (j - at)))
      (λ (o : Out at (length ys) j). rw (splice-outside j o) (B j))
      (in? at (length ys) j)
