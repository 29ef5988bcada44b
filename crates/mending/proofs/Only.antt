-- The shape, rule 5 and the pages depend on kinds, classes, run lengths and maps alone.
use mathlib.Core.Path.{◌≡◌, refl, sym, ap, ◌∙◌, subst, fun_ext}
use mathlib.Core.Logic.{◌⊎◌, inl, inr}
use mathlib.Core.Bool.{Bool, true}
use Prim.Native.Nat.{ℕ, zero, suc, ◌+◌, ◌-◌, ◌%◌, ◌^◌, ◌≤◌, ◌<◌}
use native.Mathlib.Omega.{arith}
use Rattle.base.proofs.Cases.{lt?, same_test}
use Rattle.model.specs.Classes.{chunks, own, has_taken}
use Rattle.model.specs.State.{slab}
use Rattle.rules.specs.Fields.{Fields, kind, class, run, page_of, page_at}
use Rattle.rules.specs.Rules.{rule5}
use Rattle.rules.specs.Plain.{RunFits, LiesIn, ClassPage}
use Rattle.rules.proofs.Pages.{page_in, page-past}
use Rattle.rules.proofs.Rules.{rule5-says, says-rule5}
use Rattle.rules.specs.Rules.{shape}
use Rattle.rules.specs.Plain.{Inside, First, Shape}
use Rattle.mending.specs.Claim.{SameShape}
use Rattle.rules.proofs.Shape.{shape-says, says-shape}

-- the marks matter on class pages alone
pub page-marks : (k c r : ℕ) (m b : ℕ → Bool) → (k ≡ 2 → m ≡ b) → page_of k c r m ≡ page_of k c r b
page-marks zero c r m b h = refl
page-marks (suc zero) c r m b h = refl
page-marks (suc (suc zero)) c r m b h = ap (slab c) (h refl)
page-marks (suc (suc (suc zero))) c r m b h = refl
page-marks (suc (suc (suc (suc zero)))) c r m b h = refl
page-marks (suc (suc (suc (suc (suc k))))) c r m b h = refl

flip : {n : ℕ} {v u : Fields} → SameShape n v u → SameShape n u v
flip E = record {
  kinds = λ p h. sym (E.kinds p h);
  classes = λ p h. sym (E.classes p h);
  runs = λ p h. sym (E.runs p h);
  maps = λ p h. sym (E.maps p h);
  marks = λ p h k. sym (E.marks p h (E.kinds p h ∙ k));
}

module _ (n : ℕ) (v u : Fields) (E : SameShape n v u) where
  fits : (inner p : ℕ) → p < n → RunFits v n inner p → RunFits u n inner p
  fits inner p h F =
      let r = E.runs p h in
      record {
        some-page = omega (arith, F.some-page);
        within = omega (arith, F.within);
        each = λ j a b. sym (E.kinds j (omega (arith, F.within))) ∙ F.each j a (omega arith);
      }

  first : (inner p : ℕ) → p < n → First v n inner p → First u n inner p
  first inner p h F =
      record { no-class = sym (E.classes p h) ∙ F.no-class; no-map = sym (E.maps p h) ∙ F.no-map; fits = fits inner p h F.fits }

  inside : (head p : ℕ) → p < n → Inside v n head p → Inside u n head p
  unfolding LiesIn
  inside head p h I =
      let (q, l, k, a, b) = I.lies in
      let r = E.runs q l in
      record {
        no-class = sym (E.classes p h) ∙ I.no-class;
        no_run = sym (E.runs p h) ∙ I.no_run;
        no-map = sym (E.maps p h) ∙ I.no-map;
        lies = (q, l, sym (E.kinds q l) ∙ k, a, omega arith);
      }

  class_page_lem : (p : ℕ) → p < n → kind v p ≡ 2 → ClassPage v p → ClassPage u p
  class_page_lem p h k C =
      let c = E.classes p h in
      let m = E.maps p h in
      record {
        in_range = omega (arith, C.in_range);
        no_run = sym (E.runs p h) ∙ C.no_run;
        own-set = λ i l. ap (λ (f : ℕ → Bool). f i) (sym (E.marks p h k)) ∙ C.own-set i (subst (λ (x : ℕ). i < own x) (sym c) l);
        map-small = λ l. sym m ∙ C.map-small (omega arith);
        map-large = λ l. sym (λ j. m j % 2 ^ (64 - chunks (c j))) ∙ C.map-large (omega arith);
      }

  carry : Shape v n → Shape u n
  carry S = record {
    kinds = λ p h. omega (arith, S.kinds p h, E.kinds p h);
    kind0 = λ p h k. inside 1 p h (S.kind0 p h (E.kinds p h ∙ k));
    kind1 = λ p h k. first 0 p h (S.kind1 p h (E.kinds p h ∙ k));
    apart = λ p h k a.
        let r = E.runs p h in
        let z : p + run v p ≡ p + run u p = omega arith in
        let b : p + run v p < n = omega arith in
        omega (arith, S.apart p h (E.kinds p h ∙ k) b, E.kinds (p + run v p) b, ap (kind u) z);
    kind2 = λ p h k. class_page_lem p h (E.kinds p h ∙ k) (S.kind2 p h (E.kinds p h ∙ k));
    kind3 = λ p h k. first 4 p h (S.kind3 p h (E.kinds p h ∙ k));
    kind4 = λ p h k. inside 3 p h (S.kind4 p h (E.kinds p h ∙ k));
  }

  used : rule5 v n ≡ true → rule5 u n ≡ true
  used five =
      says-rule5 u n
      (λ p h k.
      let d : kind v p ≡ 2 = E.kinds p h ∙ k in
      sym (λ j. has_taken (E.classes p h j) (E.marks p h d j)) ∙ rule5-says v n five p h d)

  pub same_table : page_at v n ≡ page_at u n
  same_table = fun_ext (λ p. go p (lt? p n))
    where
      go : (p : ℕ) → (p < n) ⊎ (n ≤ p) → page_at v n p ≡ page_at u n p
      go p (inl h) =
          page_in v n p h ∙ page-marks (kind v p) (class v p) (run v p) (v.mark p) (u.mark p) (E.marks p h)
          ∙ (λ i. page_of (E.kinds p h i) (E.classes p h i) (E.runs p h i) (u.mark p)) ∙ sym (page_in u n p h)
      go p (inr h) = page-past v n p h ∙ sym (page-past u n p h)

module _ (n : ℕ) (v u : Fields) (E : SameShape n v u) where
  pub same_shape : shape v n ≡ shape u n
  same_shape =
      same_test _ _ (λ e. says-shape u n (carry n v u E (shape-says v n e))) (λ e. says-shape v n (carry n u v (flip E) (shape-says u n e)))

  pub same_rule5 : rule5 v n ≡ rule5 u n
  same_rule5 = same_test _ _ (used n v u E) (used n u v (flip E))
