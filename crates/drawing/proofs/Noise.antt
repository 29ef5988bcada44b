-- Pools with the same records show the same fields.
use mathlib.Core.Path.{◌≡◌, refl, sym, ap, ◌∙◌, fun_ext}
use mathlib.Core.Logic.{◌⊎◌, inl, inr, ⊎_elim}
use mathlib.Core.List.{List}
use Prim.Native.Nat.{ℕ, ◌+◌, ◌*◌, ◌/◌, ◌%◌, ◌≤◌, ◌<◌}
use native.Mathlib.Omega.{arith}
use lib.ListN.{length, get_or}
use Rattle.image.specs.Image.{Same}
use borrow.Author.Tests.{ltb-true}
use Rattle.base.proofs.AllBelow.{pick_same, all_same}
use Rattle.base.proofs.Cases.{lt?}
use Rattle.words.specs.Word.{word}
use Rattle.words.proofs.Laws.{words, here?, word_in, word_out}
use Rattle.records.specs.Layout.{counts_place, tally_place, peak_place, map_place, links_place, pages_from, page_count}
use Rattle.records.specs.declared.Header.{Header}
use Rattle.records.specs.Header.{unpack_header, header_at}
use Rattle.records.specs.Class.{class_at, peak_at, peak_spare}
use Rattle.records.specs.Page.{unpack_links, links_at}
use Rattle.model.specs.Classes.{chunks}
use Rattle.maps.proofs.Marks.{mark_byte}
use Rattle.image.proofs.Places.{class-below}
use Rattle.rules.specs.Bytes.{pages_in, mark_at, image_of, fields_of, rule1, peak_fits, peaks_fit}
use Rattle.rules.specs.Agree.{Agree}
use Rattle.drawing.specs.Noise.{SameRecords}
use Rattle.model.proofs.Classes.{large-chunks}
use Rattle.drawing.proofs.Encoding.{mark-past, mark_paged, mark_recorded}

module _ (w : ℕ) (wide : 2 ≤ w) (s t : List ℕ) (S : SameRecords w s t) where
  pub pages_same : pages_in w s ≡ pages_in w t
  pages_same = ap (page_count w) S.lengths

  word_same : (k : ℕ) → 8 * k + 8 ≤ pages_from w (pages_in w s) → word s k ≡ word t k
  word_same k h =
      ⊎_elim
      (λ (l : k < length s / 8). word_in s k l ∙ words.reads s t (8 * k) (λ i a b. S.records i (omega arith)) ∙ sym (word_in t k (rw (sym S.lengths) l)))
      (λ (l : length s / 8 ≤ k). word_out s k l ∙ sym (word_out t k (rw (sym S.lengths) l)))
      (here? s k)

  header_same : header_at s ≡ header_at t
  unfolding header_at
  header_same = ap unpack_header (word_same 0 (omega arith))

  links_same : (p : ℕ) → p < pages_in w s → links_at w s p ≡ links_at w t p
  unfolding links_at
  links_same p h = ap unpack_links (word_same (links_place w p) (omega arith))

  image_same : Same (pages_in w s) (image_of w s) (image_of w t)
  unfolding image_of
  image_same = record {
    free_pages = ap (λ (h : Header). h.free_pages) header_same;
    first_run = ap (λ (h : Header). h.first_run.0) header_same;
    class = λ c h.
        let below = class-below w wide c h in
        unfold class_at in
        rw (word_same (counts_place w c) (omega arith), word_same (tally_place w c) (omega arith));
    map = λ p h. word_same (map_place w p) (omega arith);
    links = links_same;
  }

  mark_same : (p c i : ℕ) → p < pages_in w s → ((j : ℕ) → c < 3 → 8 * j < chunks c →
      get_or s (pages_from w (pages_in w s) + 4096 * p + j) 0 ≡ get_or t (pages_from w (pages_in w s) + 4096 * p + j) 0) → mark_at w s p c i ≡ mark_at w t p c i
  mark_same p c i h e = go (lt? i (chunks c)) (lt? c 3)
    where
      go : (i < chunks c) ⊎ (chunks c ≤ i) → (c < 3) ⊎ (3 ≤ c) → mark_at w s p c i ≡ mark_at w t p c i
      go (inr l) a = mark-past w s p c i l ∙ sym (mark-past w t p c i l)
      go (inl l) (inl a) =
          mark_paged w s p c i a l
          ∙ mark_byte s t (pages_from w (pages_in w s) + 4096 * p) (pages_from w (pages_in w t) + 4096 * p) i (rw (sym pages_same) (e (i / 8) a (omega arith)))
          ∙ sym (mark_paged w t p c i a l)
      go (inl l) (inr a) =
          mark_recorded w s p c i a l
          ∙ mark_byte s t (8 * map_place w p) (8 * map_place w p) i (S.records (8 * map_place w p + i / 8) (omega (arith, large-chunks c a)))
          ∙ sym (mark_recorded w t p c i a l)

  pub fields_same : Agree (pages_in w s) (fields_of w s) (fields_of w t)
  unfolding fields_of
  fields_same = record {
    image_same = image_same;
    spare = λ p h. ap (λ (x : ℕ). x % 512) (word_same (links_place w p) (omega arith));
    marks = λ p h k. fun_ext (λ i.
        unfold image_of in
        rw (← links_same p h) (mark_same p (links_at w s p).class i h (λ j a. S.maps p h k a j)));
  }

  pub rule1_same : rule1 w s ≡ rule1 w t
  unfolding rule1
  rule1_same = rw (header_same, S.lengths)

  pub peak_kept : (c : ℕ) → c < 9 → 2 < w → peak_at w s c ≡ peak_at w t c
  unfolding peak_at
  peak_kept c h deep = let k : word s (peak_place w c) ≡ word t (peak_place w c) = word_same (peak_place w c) (omega (arith, class-below w wide c h)) in rw k

  peak_same : (c : ℕ) → c < 9 → 2 < w → peak_fits w s c ≡ peak_fits w t c
  unfolding peak_fits peak_at peak_spare image_of
  peak_same c h deep =
      let k : word s (peak_place w c) ≡ word t (peak_place w c) = word_same (peak_place w c) (omega (arith, class-below w wide c h)) in
      let r : class_at w s c ≡ class_at w t c = image_same.class c h in
      rw (k, r)

  pub peaks_same : peaks_fit w s ≡ peaks_fit w t
  unfolding peaks_fit
  peaks_same = pick_same _ _ refl (λ e. all_same (peak_fits w s) (peak_fits w t) 9 (λ c h. peak_same c h (ltb-true 2 w e))) (λ e. refl)
