-- When a run is walked, and the answers by kind.
use mathlib.Core.Path.{◌≡◌, refl, sym, ◌∙◌}
use mathlib.Core.Logic.{◌≢◌}
use mathlib.Core.Bool.{Bool, true, false, true≢false}
use Prim.Native.Nat.{ℕ, zero, suc, ◌+◌, ◌-◌, ◌≤◌, ◌<◌}
use lib.Dec.{leb, ltb}
use borrow.Author.Rules.{rules}
use borrow.Author.Tests.{ltb-true, leb-true}
use Rattle.base.specs.Tests.{pick, all_of, all_below}
use Rattle.base.proofs.Tests.{both_true}
use Rattle.rules.specs.Fields.{Fields}
use Rattle.rules.specs.Rules.{kind_from, run_fits, by_kind}

pub walked : (n p k : ℕ) (u : Bool) → u ≡ pick (ltb 0 k) (leb (p + k) n) false → u ≡ true → (0 < k) × (p + k ≤ n)
walked n p k u e f = let x = both_true (ltb 0 k) (leb (p + k) n) (sym e ∙ f) in (ltb-true 0 k x.0, leb-true (p + k) n x.1)

module _ (v : Fields) (n p k inner : ℕ) (u : Bool) (e : u ≡ pick (ltb 0 k) (leb (p + k) n) false) where
  pub too_long : u ≡ false → false ≡ run_fits v n p k inner
  unfolding run_fits all_of pick
  too_long f = go (ltb 0 k) (leb (p + k) n) (sym e ∙ f)
    where
      go : (a b : Bool) → pick a b false ≡ false → false ≡ pick a (pick b (pick (all_below (kind_from v (p + 1) inner) (k - 1)) true false) false) false
      go true true z = absurd (true≢false z)
      go true false z = refl
      go false b z = refl

  pub walk_fits : u ≡ true → (r : Bool) → r ≡ all_below (kind_from v (p + 1) inner) (k - 1) → r ≡ run_fits v n p k inner
  unfolding run_fits all_of pick
  walk_fits f r d =
      let x = both_true (ltb 0 k) (leb (p + k) n) (sym e ∙ f) in
      rw (x.0, x.1) (d ∙ whole (all_below (kind_from v (p + 1) inner) (k - 1)))
    where
      whole : (b : Bool) → b ≡ pick b true false
      whole true = refl
      whole false = refl

-- ---- by kind

module _ (k : ℕ) (a b c d e : Bool) {x : Bool} where
  pub kind_0 : k ≡ 0 → x ≡ a → x ≡ by_kind k a b c d e
  kind_0 z y = rw z y

  pub kind_1 : k ≡ 1 → x ≡ b → x ≡ by_kind k a b c d e
  kind_1 z y = rw z y

  pub kind_2 : k ≡ 2 → x ≡ c → x ≡ by_kind k a b c d e
  kind_2 z y = rw z y

  pub kind_3 : k ≡ 3 → x ≡ d → x ≡ by_kind k a b c d e
  kind_3 z y = rw z y

  pub kind_4 : k ≡ 4 → x ≡ e → x ≡ by_kind k a b c d e
  kind_4 z y = rw z y

pub kind_5 : (k : ℕ) (a b c d e : Bool) → k ≢ 0 → k ≢ 1 → k ≢ 2 → k ≢ 3 → k ≢ 4 → false ≡ by_kind k a b c d e
kind_5 zero a b c d e p q r s t = absurd (p refl)
kind_5 (suc zero) a b c d e p q r s t = absurd (q refl)
kind_5 (suc (suc zero)) a b c d e p q r s t = absurd (r refl)
kind_5 (suc (suc (suc zero))) a b c d e p q r s t = absurd (s refl)
kind_5 (suc (suc (suc (suc zero)))) a b c d e p q r s t = absurd (t refl)
kind_5 (suc (suc (suc (suc (suc k))))) a b c d e p q r s t = refl

pub ruleset kinds = (kind_0, kind_1, kind_2, kind_3, kind_4, kind_5, rules)
