-- The steps of the loops over the offsets.
use Rattle.std.specs.Prelude.{Result, Ok, Err}
use mathlib.Core.Path.{◌≡◌, refl, sym, ap, ◌∙◌}
use mathlib.Core.Bool.{true, false}
use mathlib.Core.List.{List, [], ◌∷◌, ◌++◌}
use Prim.Native.Nat.{ℕ, zero, suc, ◌+◌, ◌-◌, ◌≤◌, ◌<◌}
use native.Mathlib.Numerals.{add-one}
use native.Mathlib.Omega.{arith}
use lib.ListN.{length, get_or, take, drop}
use lib.Seq.{drop-cons, take-suc}
use Rattle.answers.specs.declared.Refusal.{Refusal}
use Rattle.free_all_try.specs.Mirror.{offset_tried}
use Rattle.free_all_mark.specs.Mirror.{offset_put}
use Rattle.free_all_list.specs.Mirror.{list_tried, list_marked, list_back}

pub drop_all : (i : ℕ) (xs : List ℕ) → length xs ≤ i → drop i xs ≡ []
drop_all zero [] h = refl
drop_all (suc i) [] h = refl
drop_all zero (x ∷ xs) h = absurd (omega arith)
drop_all (suc i) (x ∷ xs) h = drop_all i xs (omega arith)

-- ---- tried

-- at place i of the list, with the slice t
pub record At (w : ℕ) (s : List ℕ) (P : ℕ) (offs : List ℕ) (i : ℕ) (t : List ℕ) : Type 0 where
  pub answer : list_tried w t P i (drop i offs) ≡ list_tried w s P 0 offs
  pub marked : list_marked w t P (drop i offs) ≡ list_marked w s P offs

pub at-start : (w : ℕ) (s : List ℕ) (P : ℕ) (offs : List ℕ) → At w s P offs 0 s
at-start w s P offs = record { answer = refl; marked = refl }

module _ (w : ℕ) (s : List ℕ) (P : ℕ) (offs : List ℕ) (i : ℕ) (t : List ℕ) where
  pub at-end : length offs ≤ i → At w s P offs i t → (Ok tt ≡ list_tried w s P 0 offs) × (t ≡ list_marked w s P offs)
  unfolding list_tried list_marked
  at-end h a = (rw (drop_all i offs h) at a.answer, rw (drop_all i offs h) at a.marked)

  module _ (x : ℕ) (y : Result (Unit {0}) Refusal) (here : i < length offs) (read : x ≡ get_or offs i 0) (asked : y ≡ offset_tried w t P x) where
    first : drop i offs ≡ x ∷ drop (suc i) offs
    first = drop-cons offs i 0 here ∙ ap (λ (z : ℕ). z ∷ drop (suc i) offs) (sym read)

    pub at-refused : (r : Refusal) → y ≡ Err r → At w s P offs i t →
        (Err (record { place = i; refusal = r }) ≡ list_tried w s P 0 offs) × (t ≡ list_marked w s P offs)
    unfolding list_tried list_marked
    at-refused r e a = (rw (first, ← asked, e) at a.answer, rw (first, ← asked, e) at a.marked)

    pub at_next : y ≡ Ok tt → (u : List ℕ) → u ≡ offset_put false w t P x → At w s P offs i t → At w s P offs (i + 1) u
    unfolding list_tried list_marked
    at_next e u f a = rw (add-one i, f) (record { answer = rw (first, ← asked, e) at a.answer; marked = rw (first, ← asked, e) at a.marked })

-- ---- taken back

back_append : (w : ℕ) (s : List ℕ) (P : ℕ) (xs : List ℕ) (y : ℕ) → list_back w s P (xs ++ (y ∷ [])) ≡ list_back w (offset_put true w s P y) P xs
unfolding list_back
back_append w s P [] y = refl
back_append w s P (x ∷ xs) y = ap (λ (t : List ℕ). offset_put true w t P x) (back_append w s P xs y)

pub back-next : (w : ℕ) (t : List ℕ) (P : ℕ) (offs : List ℕ) (i x : ℕ) (u v : List ℕ) → 0 < i → i ≤ length offs → x ≡ get_or offs (i - 1) 0 → u ≡ offset_put true w t P x →
    list_back w t P (take i offs) ≡ v → list_back w u P (take (i - 1) offs) ≡ v
back-next w t P offs zero x u v h l read e b = absurd (omega arith)
back-next w t P offs (suc i) x u v h l read e b =
    let d : suc i - 1 ≡ i = omega arith in
    let r : x ≡ get_or offs i 0 = rw d at read in
    rw (d, e, r) (sym (back_append w t P (take i offs) (get_or offs i 0)) ∙ ap (list_back w t P) (sym (take-suc offs i 0 l)) ∙ b)

pub back_start : (w : ℕ) (t : List ℕ) (P : ℕ) (xs : List ℕ) → list_back w t P xs ≡ list_back w t P xs
back_start w t P xs = refl

pub back_end : (w : ℕ) (t : List ℕ) (P : ℕ) (offs : List ℕ) (i : ℕ) (v : List ℕ) → i ≤ 0 → list_back w t P (take i offs) ≡ v → t ≡ v
unfolding list_back
back_end w t P offs zero v h e = e
back_end w t P offs (suc i) v h e = absurd (omega arith)
