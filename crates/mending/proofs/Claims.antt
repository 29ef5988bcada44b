-- The statements of `specs/Claim.antt`, proved.
use mathlib.Core.Path.{◌≡◌, refl}
use mathlib.Core.Logic.{◌≢◌}
use mathlib.Core.Bool.{Bool, true, false}
use mathlib.Core.List.{List}
use Prim.Native.Nat.{ℕ, ◌≤◌}
use native.Mathlib.Omega.{arith}
use lib.Dec.{eqb}
use lib.ListN.{length}
use Rattle.base.specs.Tests.{pick}
use Rattle.words.specs.Word.{Bytes}
use Rattle.answers.specs.Outcome.{Outcome, granted, refused}
use Rattle.answers.specs.declared.Refusal.TheVariants.{WrongLength, BeyondMending}
use Rattle.rules.specs.Bytes.{pages_in}
use Rattle.mending.specs.Mending.{shaped, mended_copy, SamePages}
use Rattle.mending.specs.Checked.{check_outcome, mend_outcome, mended}
use Rattle.mending.specs.Claim.{LinksLost, Laws, Claims}
use Rattle.mending.proofs.Only.{same_shape, same_rule5, same_table}
use Rattle.mending.proofs.Copy.{copy_bytes, copy_accepted, copied}
use Rattle.mending.proofs.Restored.{restored}
use Rattle.mending.proofs.Checked.{refusals, checked_iff}
use Rattle.mending.proofs.Rescued.{rescued}

-- nothing is lost
whole : (w : ℕ) (s : List ℕ) → LinksLost w s s
unfolding SamePages
whole w s = record {
  lengths = refl;
  edition = refl;
  min_shift = refl;
  page_shift = refl;
  page_count = refl;
  kinds = λ p h. refl;
  classes = λ p h. refl;
  runs = λ p h. refl;
  maps = λ p h. refl;
  pages = λ i h. refl;
}

module _ (w : ℕ) (wide : 2 ≤ w) (narrow : w ≤ 255) (s : List ℕ) (B : Bytes s) (t : List ℕ) where
  abbrev outcome : Bool → Bool → Outcome
  outcome a b = pick a (pick b (granted (pages_in w s)) (refused BeyondMending)) (refused WrongLength)

  mended-by : (a b : Bool) → shaped w s ≡ b → (outcome a b).number ≡ 0 → (check_outcome w s (pick (eqb (outcome a b).number 0) (mended_copy w s) t)).number ≡ 0
  unfolding pick
  mended-by true true e z = (checked_iff w wide narrow s B (mended_copy w s) (copy_bytes w wide narrow s B e)).1 (copy_accepted w wide narrow s B e)
  mended-by true false e z = absurd (omega arith)
  mended-by false b e z = absurd (omega arith)

  kept_by : (a b : Bool) → (outcome a b).number ≢ 0 → pick (eqb (outcome a b).number 0) (mended_copy w s) t ≡ t
  unfolding pick
  kept_by true true z = absurd (z refl)
  kept_by true false z = refl
  kept_by false b z = refl

  mend_checked : (mend_outcome w s t).number ≡ 0 → (check_outcome w s (mended w s t)).number ≡ 0
  unfolding mend_outcome mended
  mend_checked z = mended-by (eqb (length s) (length t)) (shaped w s) refl z

  mend_refused : (mend_outcome w s t).number ≢ 0 → mended w s t ≡ t
  unfolding mend_outcome mended
  mend_refused z = kept_by (eqb (length s) (length t)) (shaped w s) z

laws : (w : ℕ) → 2 ≤ w → w ≤ 255 → (s : List ℕ) → Bytes s → Laws w s
laws w wide narrow s B = record {
  copied = copied w wide narrow s B;
  checked_iff = checked_iff w wide narrow s B;
  refusals = refusals w wide narrow s B;
  restored = restored w wide narrow s B;
  rescued = rescued w wide narrow s B;
  itself = λ sound. rescued w wide narrow s B s B sound (whole w s);
  mend_checked = mend_checked w wide narrow s B;
  mend_refused = mend_refused w wide narrow s B;
}

pub claims : Claims
claims = record {
  shape-only = λ n v u E. (same_shape n v u E, same_rule5 n v u E, same_table n v u E);
  laws = laws;
}
