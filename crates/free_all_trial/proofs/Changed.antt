-- One byte of a page, or of its record's map field, changed: links, other pages' marks and flags are as before.
use mathlib.Core.Path.{◌≡◌, sym, ap, ◌∙◌, fun_ext}
use mathlib.Core.Logic.{◌⊎◌, inl, inr, ⊎_elim, ◌≢◌}
use mathlib.Core.Bool.{◌&&◌}
use mathlib.Core.List.{List}
use Prim.Native.Nat.{ℕ, ◌+◌, ◌*◌, ◌/◌, ◌≤◌, ◌<◌}
use native.Mathlib.Omega.{arith}
use lib.ListN.{length, get_or}
use Rattle.base.proofs.Cases.{lt?}
use Rattle.words.specs.Word.{word}
use Rattle.words.proofs.Laws.{words, here?, word_in, word_out}
use Rattle.records.specs.Layout.{map_place, links_place, pages_from, page_count}
use Rattle.records.specs.Page.{unpack_links, links_at}
use Rattle.maps.specs.Bitmap.{mark}
use Rattle.maps.proofs.Marks.{mark_byte}
use Rattle.model.specs.Classes.{chunks}
use Rattle.model.specs.State.{edge}
use Rattle.model.proofs.Classes.{small-chunks, large-chunks}
use Rattle.rules.specs.Fields.{page_of}
use Rattle.rules.specs.Bytes.{pages_in, mark_at, image_of, fields_of}
use Rattle.rules.proofs.Pages.{page_in, page-past}
use Rattle.drawing.proofs.Encoding.{mark-past, mark_paged, mark_recorded}
use Rattle.free_all_model.specs.Mirror.{is_first}
use Rattle.free_all_trial.specs.Mirror.{shown_page, shown_trial}

-- the byte at x is page p's, of P
abbrev pub Of : ℕ → ℕ → ℕ → ℕ → Type 0
Of w P x p = ((8 * map_place w p ≤ x) × (x < 8 * map_place w p + 8)) ⊎ ((pages_from w P + 4096 * p ≤ x) × (x < pages_from w P + 4096 * p + 4096))

-- what a page of the table is, by its links
pub page-is : (w : ℕ) (s : List ℕ) (p : ℕ) → p < pages_in w s →
    shown_page w s p ≡ page_of (links_at w s p).kind (links_at w s p).class (links_at w s p).run (mark_at w s p (links_at w s p).class)
unfolding shown_page fields_of image_of
page-is w s p h = page_in (fields_of w s) (pages_in w s) p h

pub page-none : (w : ℕ) (s : List ℕ) (p : ℕ) → pages_in w s ≤ p → shown_page w s p ≡ edge
unfolding shown_page
page-none w s p h = page-past (fields_of w s) (pages_in w s) p h

module _ (w : ℕ) (s t : List ℕ) (x p : ℕ) (len : length t ≡ length s) (same : (j : ℕ) → j ≢ x → get_or t j 0 ≡ get_or s j 0) (below : p < pages_in w s) (here : Of w (pages_in w s) x p) where
  pub pages_same : pages_in w t ≡ pages_in w s
  pages_same = ap (page_count w) len

  word_same : (k : ℕ) → ((i : ℕ) → 8 * k ≤ i → i < 8 * k + 8 → i ≢ x) → word t k ≡ word s k
  word_same k h =
      ⊎_elim
      (λ (l : k < length t / 8). word_in t k l ∙ words.reads t s (8 * k) (λ i a b. same i (h i a b)) ∙ sym (word_in s k (rw (sym len) l)))
      (λ (l : length t / 8 ≤ k). word_out t k l ∙ sym (word_out s k (rw (sym len) l)))
      (here? t k)

  pub links_same : (q : ℕ) → q < pages_in w s → links_at w t q ≡ links_at w s q
  unfolding links_at
  links_same q h = ap unpack_links (word_same (links_place w q) (λ i a b z. away i a b z here))
    where
      away : (i : ℕ) → 8 * links_place w q ≤ i → i < 8 * links_place w q + 8 → i ≡ x → Of w (pages_in w s) x p → ⊥
      away i a b z (inl (l, u)) = omega arith
      away i a b z (inr (l, u)) = omega arith

  module _ (q : ℕ) (h : q < pages_in w s) (d : q ≢ p) where
    -- the bytes of page q and of its map field are others
    field_away : (j : ℕ) → j < 8 → 8 * map_place w q + j ≢ x
    field_away j l z = go here
      where
        go : Of w (pages_in w s) x p → ⊥
        go (inl (a, b)) = omega arith
        go (inr (a, b)) = omega arith

    page_away : (j : ℕ) → j < 4096 → pages_from w (pages_in w s) + 4096 * q + j ≢ x
    page_away j l z = go here
      where
        go : Of w (pages_in w s) x p → ⊥
        go (inl (a, b)) = omega arith
        go (inr (a, b)) = omega arith

    mark-elsewhere : (c i : ℕ) → mark_at w t q c i ≡ mark_at w s q c i
    mark-elsewhere c i = go (lt? i (chunks c)) (lt? c 3)
      where
        go : (i < chunks c) ⊎ (chunks c ≤ i) → (c < 3) ⊎ (3 ≤ c) → mark_at w t q c i ≡ mark_at w s q c i
        go (inr l) a = mark-past w t q c i l ∙ sym (mark-past w s q c i l)
        go (inl l) (inl a) =
            let (k, y, u) = small-chunks c a in
            mark_paged w t q c i a l
            ∙ mark_byte t s (pages_from w (pages_in w t) + 4096 * q) (pages_from w (pages_in w s) + 4096 * q) i (rw pages_same (same (pages_from w (pages_in w s) + 4096 * q + i / 8) (page_away (i / 8) (omega arith))))
            ∙ sym (mark_paged w s q c i a l)
        go (inl l) (inr a) =
            mark_recorded w t q c i a l
            ∙ mark_byte t s (8 * map_place w q) (8 * map_place w q) i (same (8 * map_place w q + i / 8) (field_away (i / 8) (omega (arith, large-chunks c a))))
            ∙ sym (mark_recorded w s q c i a l)

    page-elsewhere : shown_page w t q ≡ shown_page w s q
    page-elsewhere = page-is w t q (rw pages_same h) ∙ rw (links_same q h, fun_ext (mark-elsewhere (links_at w s q).class)) (sym (page-is w s q h))

    flag-elsewhere : mark t (8 * map_place w q) 0 ≡ mark s (8 * map_place w q) 0
    flag-elsewhere = mark_byte t s (8 * map_place w q) (8 * map_place w q) 0 (same (8 * map_place w q + 0 / 8) (field_away (0 / 8) (omega arith)))

  pub pages-kept : (q : ℕ) → q ≢ p → shown_page w t q ≡ shown_page w s q
  pages-kept q d = go (lt? q (pages_in w s))
    where
      go : (q < pages_in w s) ⊎ (pages_in w s ≤ q) → shown_page w t q ≡ shown_page w s q
      go (inl h) = page-elsewhere q h d
      go (inr h) = page-none w t q (rw pages_same h) ∙ sym (page-none w s q h)

  pub flags_kept : (q : ℕ) → q ≢ p → (shown_trial w t).flag q ≡ (shown_trial w s).flag q
  unfolding shown_trial
  flags_kept q d = go (lt? q (pages_in w s))
    where
      go : (q < pages_in w s) ⊎ (pages_in w s ≤ q) → is_first (shown_page w t q) && mark t (8 * map_place w q) 0 ≡ is_first (shown_page w s q) && mark s (8 * map_place w q) 0
      go (inl h) = rw (page-elsewhere q h d, flag-elsewhere q h d)
      go (inr h) = rw (page-none w t q (rw pages_same h), page-none w s q h)
