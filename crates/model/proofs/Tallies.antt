-- Tallies stay of 32 bits, and none stands past class 8.
use mathlib.Core.Path.{◌≡◌, refl}
use mathlib.Core.Bool.{Bool, true, false, cond}
use Prim.Native.Nat.{ℕ, suc, ◌≤◌}
use native.Mathlib.Omega.{arith}
use lib.Dec.{ltb}
use borrow.Author.Tests.{ltb-true}
use Rattle.base.specs.Functions.{upd}
use Rattle.base.proofs.Functions.{upd-keeps}
use Rattle.model.specs.State.{most, Tally}
use Rattle.model.specs.WellFormed.{TallyOk}
use Rattle.model.specs.Calls.{raise, asked, failed}

raise-fits : (n : ℕ) → n ≤ most → raise n ≤ most
unfolding raise
raise-fits n h = go (ltb n most) refl
  where
    go : (t : Bool) → ltb n most ≡ t → cond t (suc n) n ≤ most
    go true e = omega (arith, ltb-true n most e)
    go false e = h

module _ {tally : ℕ → Tally} (ok : (d : ℕ) → TallyOk d (tally d)) (c : ℕ) (h : c ≤ 8) where
  pub asked_ok : (d : ℕ) → TallyOk d (upd tally c (asked (tally c)) d)
  unfolding asked
  asked_ok = upd-keeps TallyOk ok c (asked (tally c))
      (record { reqs-fit = raise-fits _ (ok c).reqs-fit; fails-fit = (ok c).fails-fit; none-past = λ z. absurd (omega arith) })

  pub failed_ok : (d : ℕ) → TallyOk d (upd tally c (failed (tally c)) d)
  unfolding failed
  failed_ok = upd-keeps TallyOk ok c (failed (tally c))
      (record { reqs-fit = raise-fits _ (ok c).reqs-fit; fails-fit = raise-fits _ (ok c).fails-fit; none-past = λ z. absurd (omega arith) })
