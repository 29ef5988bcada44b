-- A sound pool is accepted as the mended copy of what is left of it when links are lost.
use mathlib.Core.Path.{◌≡◌, sym, ap, ◌∙◌, subst, fun_ext}
use mathlib.Core.Logic.{◌⊎◌, inl, inr}
use mathlib.Core.Bool.{true}
use mathlib.Core.List.{List}
use Prim.Native.Nat.{ℕ, ◌*◌, ◌≤◌, ◌<◌}
use native.Mathlib.Omega.{arith}
use Rattle.base.proofs.Cases.{lt?}
use Rattle.base.proofs.AllBelow.{◌&◌, all_of_lem}
use Rattle.words.specs.Word.{Bytes}
use Rattle.records.specs.Layout.{map_place}
use Rattle.records.specs.Page.{links_at}
use Rattle.model.specs.Classes.{chunks}
use Rattle.model.proofs.Classes.{large-chunks}
use Rattle.maps.specs.Bitmap.{mark}
use Rattle.maps.proofs.Bits.{bits_injective}
use Rattle.maps.proofs.Words.{word-marks}
use Rattle.rules.specs.Fields.{Fields, class}
use Rattle.rules.specs.Rules.{rule5}
use Rattle.rules.specs.Bytes.{pages_in, mark_at, image_of, fields_of, broken_rule}
use Rattle.rules.specs.Plain.{Rule1}
use Rattle.rules.proofs.Rule1.{rule1-says, rule1-holds}
use Rattle.drawing.proofs.Encoding.{mark-past, mark_recorded}
use Rattle.drawing.proofs.Laws.{none-broken}
use Rattle.mending.specs.Claim.{SameShape, LinksLost}
use Rattle.mending.proofs.Only.{same_shape, same_rule5, same_table}
use Rattle.mending.specs.Mending.{shaped, table, Accepted}
use Rattle.mending.proofs.Copy.{edition_byte}
use Rattle.mending.proofs.Checked.{pages-alike, paged, sound-shape, new-page}

module _ (w : ℕ) (wide : 2 ≤ w) (narrow : w ≤ 255) (s : List ℕ) (B : Bytes s) (t : List ℕ) (C : Bytes t) (sound : broken_rule w t ≡ 0) (L : LinksLost w s t) where
  abbrev n : ℕ
  n = pages_in w s

  abbrev v : Fields
  v = fields_of w s

  abbrev u : Fields
  u = fields_of w t

  alike : pages_in w t ≡ n
  alike = pages-alike w wide narrow s B t C L.lengths

  new_one : Rule1 w t
  new_one = rule1-says w t (none-broken w t sound).0

  old_one : Rule1 w s
  old_one = record {
    some = omega (arith, new_one.some, L.lengths);
    few = omega (arith, new_one.few, alike);
    edition = L.edition ∙ new_one.edition;
    min_shift = L.min_shift ∙ new_one.min_shift;
    page_shift = L.page_shift ∙ new_one.page_shift;
    pages = L.page_count ∙ new_one.pages ∙ alike;
  }

  -- the marks of the other classes lie in the records
  recorded : (p : ℕ) → p < n → (i : ℕ) → 3 ≤ class v p → v.mark p i ≡ u.mark p i
  unfolding fields_of image_of
  recorded p h i a = go (lt? i (chunks (links_at w s p).class)) ∙ ap (λ (d : ℕ). mark_at w t p d i) (L.classes p h)
    where
      go : (i < chunks (links_at w s p).class) ⊎ (chunks (links_at w s p).class ≤ i) → mark_at w s p (links_at w s p).class i ≡ mark_at w t p (links_at w s p).class i
      go (inl l) =
          mark_recorded w s p (links_at w s p).class i a l
          ∙ bits_injective (mark s (8 * map_place w p)) (mark t (8 * map_place w p)) 64
          (sym (word-marks s B (map_place w p) (omega arith)) ∙ L.maps p h ∙ word-marks t C (map_place w p) (omega (arith, L.lengths))) i
          (omega (arith, large-chunks (links_at w s p).class a))
          ∙ sym (mark_recorded w t p (links_at w s p).class i a l)
      go (inr l) = mark-past w s p (links_at w s p).class i l ∙ sym (mark-past w t p (links_at w s p).class i l)

  same : SameShape n v u
  same = record { kinds = L.kinds; classes = L.classes; runs = L.runs; maps = L.maps; marks = λ p h k. fun_ext (λ i. marks p h i (lt? (class v p) 3)) }
    where
      marks : (p : ℕ) → p < n → (i : ℕ) → (class v p < 3) ⊎ (3 ≤ class v p) → v.mark p i ≡ u.mark p i
      marks p h i (inl a) = paged w wide narrow s B t C L.lengths L.pages p i (L.classes p h) a
      marks p h i (inr a) = recorded p h i a

  good : shaped w s ≡ true
  unfolding shaped
  good =
      all_of_lem _
      (rule1-holds w s old_one & (same_shape n v u same ∙ sound-shape w wide narrow s B t C L.lengths sound)
      & (same_rule5 n v u same ∙ subst (λ (k : ℕ). rule5 u k ≡ true) alike (none-broken w t sound).1.five) & tt)

  pub rescued : Accepted w s t
  unfolding table
  rescued = record {
    lengths = L.lengths;
    editions = sym (edition_byte s B (omega (arith, old_one.some))) ∙ L.edition ∙ edition_byte t C (omega (arith, new_one.some));
    good = good;
    sound = sound;
    blocks = λ e. rw (new-page w wide narrow s B t C L.lengths, same_table n v u same) (λ l. l, λ l. l);
    pages = L.pages;
  }
