-- What the tests let pass.
use mathlib.Core.Path.{◌≡◌, refl, sym, ap, ◌∙◌}
use mathlib.Core.Logic.{◌≢◌}
use mathlib.Core.Bool.{Bool, true, false, not}
use mathlib.Core.List.{List}
use Prim.Native.Nat.{ℕ, ◌+◌, ◌-◌, ◌≤◌}
use native.Mathlib.Numerals.{add-one}
use native.Mathlib.Omega.{arith}
use lib.Dec.{eqb}
use lib.ListN.{length, get_or}
use borrow.Author.Tests.{eq-eqb, ne_eqb, not-true, not-false}
use Rattle.base.specs.Tests.{pick, all_of, all_below}
use Rattle.base.proofs.AllBelow.{pick_yes, pick_no, each_of}
use Rattle.records.specs.Layout.{pages_from}
use Rattle.answers.specs.Outcome.{Outcome, granted, refused}
use Rattle.answers.specs.declared.Refusal.TheVariants.{NotSound, WrongLength, BeyondMending, OtherBlocks}
use Rattle.rules.specs.Rules.{shape, rule5}
use Rattle.rules.specs.Bytes.{pages_in, fields_of, rule1, broken_rule}
use Rattle.rules.proofs.Rule1.{rule1-says}
use Rattle.mending.specs.Mending.{shaped}
use Rattle.mending.specs.Checked.{same_page_at, same_byte_from, same_blocks, same_rest, compared, check_outcome}

-- ---- what of the damaged pool must be good

module _ (w : ℕ) (s : List ℕ) (n : ℕ) (pages : n ≡ pages_in w s) (u : Bool) (one : u ≡ rule1 w s) where
  pub header_fails : u ≡ false → false ≡ shaped w s
  unfolding shaped all_of
  header_fails f = sym (pick_no _ _ _ (sym one ∙ f))

  module _ (f : u ≡ true) where
    pub few : n ≤ 4096
    few = omega (arith, (rule1-says w s (sym one ∙ f)).few)

    module _ (v : Bool) (two : v ≡ shape (fields_of w s) n) where
      pub shape-fails : v ≡ false → false ≡ shaped w s
      unfolding shaped all_of
      shape-fails g = sym (pick_yes _ _ _ (sym one ∙ f) ∙ pick_no _ _ _ (ap (shape (fields_of w s)) (sym pages) ∙ sym two ∙ g))

      pub shaped-by : v ≡ true → (r : Bool) → r ≡ rule5 (fields_of w s) n → r ≡ shaped w s
      unfolding shaped all_of
      shaped-by g r five =
          sym
          (pick_yes _ _ _ (sym one ∙ f) ∙ pick_yes _ _ _ (ap (shape (fields_of w s)) (sym pages) ∙ sym two ∙ g)
          ∙ last (rule5 (fields_of w s) (pages_in w s)) ∙ sym (five ∙ ap (rule5 (fields_of w s)) pages))
        where
          last : (b : Bool) → pick b true false ≡ b
          last true = unfold pick in refl
          last false = unfold pick in refl

-- rule 1 of a well-shaped pool
pub shaped_room : (w : ℕ) (s : List ℕ) (n : ℕ) → n ≡ pages_in w s → shaped w s ≡ true → (n ≤ 4096) × (pages_from w n ≤ length s)
unfolding shaped
shaped_room w s n pages e = let R = rule1-says w s (each_of _ e).0 in (omega (arith, R.few), omega (arith, R.some))

-- ---- the comparison

module _ (w : ℕ) (s t : List ℕ) (n from : ℕ) (pages : n ≡ pages_in w s) (at : from ≡ pages_from w n) (u : Bool)
    (rest : u ≡ all_below (same_byte_from from s t) (length s - from)) where
  rest-is : u ≡ same_rest w s t
  unfolding same_rest
  rest-is = rest ∙ rw (at, pages)

  pub rest_differs : u ≡ false → refused OtherBlocks ≡ compared w s t
  unfolding compared
  rest_differs f = sym (pick_no _ _ _ (sym rest-is ∙ f))

  module _ (f : u ≡ true) (v : Bool) (each : v ≡ all_below (same_page_at (fields_of w s) (fields_of w t)) n) where
    each-is : v ≡ same_blocks w s t
    unfolding same_blocks
    each-is = each ∙ rw pages

    pub pages-differ : v ≡ false → refused OtherBlocks ≡ compared w s t
    unfolding compared
    pages-differ g = sym (pick_yes _ _ _ (sym rest-is ∙ f) ∙ pick_no _ _ _ (sym each-is ∙ g))

    pub all_same : v ≡ true → granted 0 ≡ compared w s t
    unfolding compared
    all_same g = sym (pick_yes _ _ _ (sym rest-is ∙ f) ∙ pick_yes _ _ _ (sym each-is ∙ g))

-- ---- the answer

module _ (w : ℕ) (s t : List ℕ) where
  pub other_length : length s ≢ length t → refused WrongLength ≡ check_outcome w s t
  unfolding check_outcome
  other_length d = sym (pick_no _ _ _ (ne_eqb _ _ d))

  module _ (l : length s ≡ length t) (e : Bool) (first : e ≡ eqb (get_or s 0 0) (get_or t 0 0)) where
    pub other_edition : e ≡ false → refused WrongLength ≡ check_outcome w s t
    unfolding check_outcome
    other_edition f = sym (pick_yes _ _ _ (eq-eqb _ _ l) ∙ pick_no _ _ _ (sym first ∙ f))

    module _ (f : e ≡ true) (u : Bool) (good : u ≡ shaped w s) where
      pub beyond : u ≡ false → refused BeyondMending ≡ check_outcome w s t
      unfolding check_outcome
      beyond g = sym (pick_yes _ _ _ (eq-eqb _ _ l) ∙ pick_yes _ _ _ (sym first ∙ f) ∙ pick_no _ _ _ (sym good ∙ g))

      module _ (g : u ≡ true) (v : Bool) (sound : v ≡ eqb (broken_rule w t) 0) where
        to_here : check_outcome w s t ≡ pick (eqb (broken_rule w t) 0) (compared w s t) (refused NotSound)
        unfolding check_outcome
        to_here = pick_yes _ _ _ (eq-eqb _ _ l) ∙ pick_yes _ _ _ (sym first ∙ f) ∙ pick_yes _ _ _ (sym good ∙ g)

        pub unsound : v ≡ false → refused NotSound ≡ check_outcome w s t
        unsound h = sym (to_here ∙ pick_no _ _ _ (sym sound ∙ h))

        pub by_comparison : v ≡ true → (o : Outcome) → o ≡ compared w s t → o ≡ check_outcome w s t
        by_comparison h o z = z ∙ sym (to_here ∙ pick_yes _ _ _ (sym sound ∙ h))

-- ---- a loop that tests each number below n and goes on

module _ (t : ℕ → Bool) where
  pub and_none : true ≡ all_below t 0
  unfolding all_below
  and_none = refl

  pub and_more : (i : ℕ) (u b r : Bool) → u ≡ t i → b ≡ all_below t i → r ≡ pick u b false → r ≡ all_below t (i + 1)
  unfolding all_below
  and_more i u b r e a x = x ∙ rw (add-one i, e, a)

  pub and_done : (n i : ℕ) (b : Bool) → i ≤ n → n ≤ i → b ≡ all_below t i → b ≡ all_below t n
  and_done n i b h k a = let e : n ≡ i = omega arith in rw e a
