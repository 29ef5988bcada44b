-- Rule 1 as a test and in plain form.
use mathlib.Core.Path.{◌≡◌}
use mathlib.Core.Logic.{◌↔◌}
use mathlib.Core.Bool.{true}
use mathlib.Core.List.{List}
use Prim.Native.Nat.{ℕ}
use borrow.Author.Tests.{leb-true, eqb-true, le-leb, eq-eqb}
use Rattle.base.proofs.AllBelow.{each_of, all_of_lem}
use Rattle.rules.specs.Bytes.{rule1}
use Rattle.rules.specs.Plain.{Rule1}

pub rule1-says : (w : ℕ) (s : List ℕ) → rule1 w s ≡ true → Rule1 w s
unfolding rule1
rule1-says w s e =
    let x = each_of _ e in
    record {
      some = leb-true _ _ x.0;
      few = leb-true _ _ x.1.0;
      edition = eqb-true _ _ x.1.1.0;
      min_shift = eqb-true _ _ x.1.1.1.0;
      page_shift = eqb-true _ _ x.1.1.1.1.0;
      pages = eqb-true _ _ x.1.1.1.1.1.0;
    }

pub rule1-holds : (w : ℕ) (s : List ℕ) → Rule1 w s → rule1 w s ≡ true
unfolding rule1
rule1-holds w s R =
    all_of_lem _ (
      le-leb _ _ R.some,
      (
        le-leb _ _ R.few,
        (eq-eqb _ _ R.edition, (eq-eqb _ _ R.min_shift, (eq-eqb _ _ R.page_shift, (eq-eqb _ _ R.pages, tt)))),
      ),
    )

pub rule1_iff : (w : ℕ) (s : List ℕ) → (rule1 w s ≡ true) ↔ Rule1 w s
rule1_iff w s = (rule1-says w s, rule1-holds w s)
