-- What alloc and free rely on, from rules 2 to 6.
use mathlib.Core.Path.{◌≡◌, refl, sym, ap, ◌∙◌}
use mathlib.Core.Logic.{◌⊎◌, inl, inr}
use mathlib.Core.Bool.{Bool, true, false, false≢true}
use mathlib.Core.List.{List}
use Prim.Native.Nat.{ℕ, ◌+◌, ◌≤◌, ◌<◌}
use native.Mathlib.Omega.{arith}
use lib.Dec.{eqb, leb}
use lib.ListN.{length, get_or}
use borrow.Author.Tests.{eq-eqb, ne_eqb, eqb-false, leb-true}
use Rattle.base.specs.Tests.{pick}
use Rattle.base.proofs.Tests.{both_true}
use Rattle.base.proofs.AllBelow.{pick_yes, pick_no, each_of, all-at}
use Rattle.base.proofs.Cases.{lt?}
use Rattle.plain.specs.Table.{vacant, is_vacant}
use Rattle.plain.specs.Plain.{free_entry}
use Rattle.plain.specs.declared.Extent.{Extent}
use Rattle.plain.specs.declared.PageEntry.{PageEntry}
use Rattle.plain.specs.declared.Kept.{Kept}
use Rattle.plain.proofs.Loops.{get_d_past}
use Rattle.plain.proofs.Joined.{Paged}
use Rattle.plain_rules.specs.Rules.{class_ok, run_ok, kind_ok, apart, stretch_ok, extent_ok}
use Rattle.plain_rules.specs.Mirror.{entry_ok, table_ok, kept_page_ok, kept_sound}
use Rattle.plain_alloc.specs.Mirror.{Low}
use Rattle.plain_free.specs.Mirror.{Classed, AllClassed}

first-low : (t : List PageEntry) (e : Extent) → 1 ≤ e.len → extent_ok t e ≡ true → e.first < 12
unfolding extent_ok is_vacant stretch_ok
first-low t e m h =
    let u = sym (pick_no (eqb e.len 0) true (pick (leb (e.first + e.len) 12) (apart t e.first (e.first + e.len)) false) (ne_eqb e.len 0 (λ z. omega arith))) ∙ h in
    let v = leb-true (e.first + e.len) 12 (both_true (leb (e.first + e.len) 12) (apart t e.first (e.first + e.len)) u).0 in
    omega arith

kind-class : (t : List PageEntry) (b : List ℕ) (p : ℕ) (e : PageEntry) → kind_ok t b p e ≡ true → e.kind ≡ 1 → e.class ≤ 8
unfolding kind_ok class_ok
kind-class t b p e h k =
    let u = sym (pick_no _ _ _ (ne_eqb e.kind 0 (λ z. omega arith))) ∙ h in
    let v = sym (pick_yes _ _ _ (eq-eqb e.kind 1 k)) ∙ u in
    leb-true e.class 8 (both_true (leb e.class 8) _ v).0

kind_paged : (t : List PageEntry) (b : List ℕ) (p : ℕ) (e : PageEntry) → kind_ok t b p e ≡ true → Paged e
unfolding kind_ok run_ok Paged
kind_paged t b p e h k = go (eqb e.run 0) refl
  where
    go : (z : Bool) → eqb e.run 0 ≡ z → 1 ≤ e.run
    go false d = let m = eqb-false e.run 0 d in omega arith
    go true d =
        let u = sym (pick_no _ _ _ (ne_eqb e.kind 0 (λ z. omega arith))) ∙ h in
        let v = sym (pick_no _ _ _ (ne_eqb e.kind 1 (λ z. omega arith))) ∙ u in
        let w = sym (pick_yes _ _ _ (eq-eqb e.kind 2 k)) ∙ v in
        absurd (false≢true (sym (pick_yes _ _ _ d) ∙ w))

pub entry-low : (t : List PageEntry) (runs : List Extent) (i : ℕ) (ok : Bool) (e : Extent) → length runs ≡ 12 → ok ≡ table_ok t runs → e ≡ get_or runs i vacant → ok ≡ true → Low e
unfolding Low table_ok entry_ok vacant
entry-low t runs i ok e long eo ee h n = go (lt? i 12)
  where
    go : (i < 12) ⊎ (12 ≤ i) → e.first < 12
    go (inl j) = first-low t e n (rw ee (both_true _ _ (all-at (entry_ok t runs) 12 (sym eo ∙ h) i j)).1)
    go (inr j) = let z : e.len ≡ 0 = ap (λ (x : Extent). x.len) (ee ∙ get_d_past runs i vacant (omega arith)) in absurd (omega arith)

module _ (s : Kept) (b : List ℕ) (h : kept_sound s b ≡ true) where
  kind_at : (p : ℕ) → p < 12 → kind_ok s.pages b p (get_or s.pages p free_entry) ≡ true
  unfolding kept_sound kept_page_ok
  kind_at p l = (both_true _ _ (all-at (kept_page_ok s.pages s.ready b) 12 (each_of _ h).0 p l)).0

  pub classed_sound : AllClassed s.pages
  unfolding AllClassed Classed
  classed_sound p l k = kind-class s.pages b p (get_or s.pages p free_entry) (kind_at p l) k

  pub paged_sound : (p : ℕ) → p < 12 → Paged (get_or s.pages p free_entry)
  paged_sound p l = kind_paged s.pages b p (get_or s.pages p free_entry) (kind_at p l)
