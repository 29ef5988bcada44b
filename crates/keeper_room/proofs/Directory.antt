-- The ways of the test of a directory.
use mathlib.Core.Path.{◌≡◌}
use mathlib.Core.Bool.{true, false}
use Prim.Native.Nat.{ℕ, ◌≤◌, ◌<◌}
use borrow.Author.Tests.{le-leb, lt-leb}
use Rattle.base.specs.Tests.{all_below}
use Rattle.model.specs.State.{State}
use Rattle.keeper_model.specs.Store.{Entry}
use Rattle.keeper_model.specs.Directory.{entry_ok, differ, directory_ok}

module _ (m : State) (n : ℕ) (e : ℕ → Entry) where
  pub no-places : n < 1 → false ≡ directory_ok m n e
  unfolding directory_ok
  no-places h = rw (lt-leb 1 n h)

  module _ (some : 1 ≤ n) where
    pub too_many : 64 < n → false ≡ directory_ok m n e
    unfolding directory_ok
    too_many h = rw (le-leb 1 n some, lt-leb n 64 h)

    module _ (few : n ≤ 64) where
      pub one_unfit : all_below (λ i. entry_ok m (e i)) n ≡ false → false ≡ directory_ok m n e
      unfolding directory_ok
      one_unfit h = rw (le-leb 1 n some, le-leb n 64 few, h)

      pub all_fit : all_below (λ i. entry_ok m (e i)) n ≡ true → all_below (λ i. all_below (λ j. differ (e i) (e j)) i) n ≡ directory_ok m n e
      unfolding directory_ok
      all_fit h = rw (le-leb 1 n some, le-leb n 64 few, h)
