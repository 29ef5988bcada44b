-- The two ways of an alloc: a chunk of a page on a list, or from the free runs.
use Rattle.std.proofs.Common.{◌≡◌, ℕ, ◌+◌, ◌%◌, ◌<◌, ◌≤◌, Bool, true, false, eqb, ltb, leb, ◌≢◌, ◌⊎◌, List, sym, refl, ◌∙◌, inl, inr, arith, le-ltb, lt-ltb, eq-eqb, ne_eqb, le-leb, leb-true}
use borrow.Author.Tests.{eqb-false, lt-leb}
use Rattle.base.specs.Tests.{pick}
use Rattle.base.proofs.AllBelow.{pick_yes, pick_no}
use Rattle.base.proofs.Cases.{clash, eq?, lt?}
use Rattle.sizes.specs.Mirror.{class_for}
use Rattle.alloc_sound.specs.Mirror.{new_outcome, new_slice, class_outcome, class_slice, takes_chunk, runs_outcome, runs_slice, take_slice, alloc_outcome}

-- ---- the test

-- one comparison, for x one less than n in 32 bits
pub both_ends : (n x : ℕ) → n < 4294967296 → x < 4294967296 → (x + 1) % 4294967296 ≡ n → ltb x 2048 ≡ takes_chunk n
unfolding takes_chunk
both_ends n x h l e = go (eq? n 0)
  where
    go : (n ≡ 0) ⊎ (n ≢ 0) → ltb x 2048 ≡ pick (eqb n 0) false (leb n 2048)
    go (inl z) = le-ltb x 2048 (omega arith) ∙ sym (pick_yes _ _ _ (eq-eqb n 0 z))
    go (inr z) = upper (lt? x 2048) ∙ sym (pick_no _ _ _ (ne_eqb n 0 z))
      where
        upper : (x < 2048) ⊎ (2048 ≤ x) → ltb x 2048 ≡ leb n 2048
        upper (inl y) = lt-ltb x 2048 y ∙ sym (le-leb n 2048 (omega arith))
        upper (inr y) = le-ltb x 2048 y ∙ sym (lt-leb n 2048 (omega arith))

-- ---- what it says

arms : (t u : Bool) → pick t false u ≡ true → (t ≡ false) × (u ≡ true)
unfolding pick
arms true u e = absurd (clash e refl)
arms false u e = (refl, e)

module _ (w : ℕ) (s : List ℕ) (P n : ℕ) where
  module _ (yes : takes_chunk n ≡ true) where
    is : (eqb n 0 ≡ false) × (leb n 2048 ≡ true)
    unfolding takes_chunk
    is = arms (eqb n 0) (leb n 2048) yes

    pub chunk-sized : (1 ≤ n) × (n ≤ 2048)
    chunk-sized = let d : n ≢ 0 = eqb-false n 0 is.0 in (omega arith, leb-true n 2048 is.1)

    pub of_class : (alloc_outcome w s P n ≡ class_outcome w s P (class_for n)) × (take_slice w s P n ≡ class_slice w s P (class_for n))
    unfolding alloc_outcome take_slice
    of_class = (pick_no _ _ _ is.0 ∙ pick_yes _ _ _ is.1, pick_no _ _ _ is.0 ∙ pick_yes _ _ _ is.1)

  -- without a chunk of a page on a list, what such a chunk would be does not matter
  pub of_runs : takes_chunk n ≡ false → (alloc_outcome w s P n ≡ runs_outcome w s P n) × (take_slice w s P n ≡ runs_slice w s P n)
  unfolding takes_chunk alloc_outcome take_slice runs_outcome runs_slice
  of_runs other = (either (eqb n 0) (leb n 2048) other _ _ _ _, either (eqb n 0) (leb n 2048) other _ _ _ _)
    where
      either : {A : Type 0} (t u : Bool) → pick t false u ≡ false → (a b d e : A) → pick t a (pick u b e) ≡ pick t a (pick u d e)
      either true u z a b d e = unfold pick in refl
      either false true z a b d e = absurd (clash refl (unfold pick in z))
      either false false z a b d e = unfold pick in refl

  pub of_new-page : 1 ≤ n → n ≤ 2048 → (runs_outcome w s P n ≡ new_outcome w s P (class_for n)) × (runs_slice w s P n ≡ new_slice w s P (class_for n))
  unfolding runs_outcome runs_slice
  of_new-page h l =
      let d : n ≢ 0 = λ z. omega arith in
      (pick_no _ _ _ (ne_eqb n 0 d) ∙ pick_yes _ _ _ (le-leb n 2048 l), pick_no _ _ _ (ne_eqb n 0 d) ∙ pick_yes _ _ _ (le-leb n 2048 l))
