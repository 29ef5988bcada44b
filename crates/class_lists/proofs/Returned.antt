-- A chunk that comes back, by whether its page is on the list.
use mathlib.Core.Path.{◌≡◌, sym, ap, ◌∙◌}
use mathlib.Core.Bool.{Bool, true, false, not}
use mathlib.Core.List.{List}
use Prim.Native.Nat.{ℕ}
use lib.Dec.{eqb}
use Rattle.base.specs.Tests.{pick}
use Rattle.base.proofs.AllBelow.{pick_yes, pick_no}
use Rattle.records.specs.Layout.{no_page}
use Rattle.records.specs.declared.Links.{Links}
use Rattle.records.specs.Class.{class_at}
use Rattle.records.specs.Page.{links_at}
use Rattle.classes.specs.Mirror.{count_back, count_back_first}
use Rattle.chunks.specs.Mirror.{set_before, off_list, back_counted}

module _ (w : ℕ) (s : List ℕ) (c p : ℕ) (l : Links) (h : ℕ) (r : Bool) (is : l ≡ links_at w s p) (first : h ≡ (class_at w s c).first.0)
    (told : r ≡ pick (eqb l.prev.0 no_page) (not (eqb h p)) false) where
  tells : r ≡ off_list w s c p
  unfolding off_list
  tells = told ∙ rw (is, first)

  pub off : r ≡ true → (out : List ℕ) → out ≡ count_back_first w (set_before w s c p h) c p → out ≡ back_counted w s c p
  unfolding back_counted
  off t out e = e ∙ ap (λ (x : ℕ). count_back_first w (set_before w s c p x) c p) first ∙ sym (pick_yes _ _ _ (sym tells ∙ t))

  pub listed : r ≡ false → (out : List ℕ) → out ≡ count_back w s c → out ≡ back_counted w s c p
  unfolding back_counted
  listed t out e = e ∙ sym (pick_no _ _ _ (sym tells ∙ t))
