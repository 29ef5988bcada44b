-- A plain state is sound exactly where its table of free runs keeps its rules and what is kept by value keeps the others.
use mathlib.Core.Path.{◌≡◌, refl, sym}
use mathlib.Core.Bool.{Bool, true, false}
use mathlib.Core.List.{List}
use Prim.Native.Nat.{ℕ, ◌<◌}
use lib.ListN.{get_or}
use Rattle.base.specs.Tests.{pick}
use Rattle.base.proofs.Tests.{both_true}
use Rattle.base.proofs.AllBelow.{pick-both, each_of, all_of_lem, ◌&◌, all-at, at_all}
use Rattle.plain.specs.Table.{vacant}
use Rattle.plain.specs.Plain.{plain_of}
use Rattle.plain.specs.declared.Extent.{Extent}
use Rattle.plain.specs.declared.Kept.{Kept}
use Rattle.plain_rules.specs.Rules.{runs_ok, extent_ok, page_ok, is_sound}
use Rattle.plain_rules.specs.Mirror.{entry_ok, table_ok, kept_page_ok, kept_sound}

same_test : (x y : Bool) → (x ≡ true → y ≡ true) → (y ≡ true → x ≡ true) → x ≡ y
same_test true y f g = sym (f refl)
same_test false true f g = g refl
same_test false false f g = refl

module _ (s : Kept) (t : List Extent) (b : List ℕ) where
  abbrev page : ℕ → Bool
  page = page_ok s.pages t s.ready b

  abbrev extent : ℕ → Bool
  extent i = extent_ok s.pages (get_or t i vacant)

  split-page : (p : ℕ) → page p ≡ true → (kept_page_ok s.pages s.ready b p ≡ true) × (runs_ok s.pages t p ≡ true)
  unfolding page_ok kept_page_ok
  split-page p h = let x = each_of _ h in (pick-both _ _ x.0 x.1.1.0, x.1.0)

  join-page : (p : ℕ) → kept_page_ok s.pages s.ready b p ≡ true → runs_ok s.pages t p ≡ true → page p ≡ true
  unfolding page_ok kept_page_ok
  join-page p h k = let x = both_true _ _ h in all_of_lem _ (x.0 & k & x.1 & tt)

  there : is_sound (plain_of s t) b ≡ true → (table_ok s.pages t ≡ true) × (kept_sound s b ≡ true)
  unfolding is_sound table_ok entry_ok kept_sound
  there h =
      let x = each_of _ h in
      let at : (p : ℕ) → p < 12 → page p ≡ true = all-at page 12 x.0 in (
        at_all (entry_ok s.pages t) 12 (λ p l. pick-both _ _ (split-page p (at p l)).1 (all-at extent 12 x.1.0 p l)),
        all_of_lem _ (at_all (kept_page_ok s.pages s.ready b) 12 (λ p l. (split-page p (at p l)).0) & x.1.1.0 & x.1.1.1.0 & tt),
      )

  back : table_ok s.pages t ≡ true → kept_sound s b ≡ true → is_sound (plain_of s t) b ≡ true
  unfolding is_sound table_ok entry_ok kept_sound
  back h k =
      let x = each_of _ k in
      let at : (p : ℕ) → p < 12 → entry_ok s.pages t p ≡ true = all-at (entry_ok s.pages t) 12 h in
      all_of_lem _
      (at_all page 12 (λ p l. join-page p (all-at (kept_page_ok s.pages s.ready b) 12 x.0 p l) (both_true _ _ (at p l)).0)
      & at_all extent 12 (λ p l. (both_true _ _ (at p l)).1) & x.1.0 & x.1.1.0 & tt)

  pub sound-split : is_sound (plain_of s t) b ≡ pick (table_ok s.pages t) (kept_sound s b) false
  sound-split =
      same_test _ _ (λ h. let x = there h in pick-both _ _ x.0 x.1)
      (λ h. let x = both_true (table_ok s.pages t) (kept_sound s b) h in back x.0 x.1)
