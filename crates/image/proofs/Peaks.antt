-- The peaks that lie beneath an image: what writing them leaves, and what painting leaves of them.
use mathlib.Core.Path.{◌≡◌, refl, ap, ◌∙◌}
use mathlib.Core.Logic.{◌⊎◌, inl, inr}
use mathlib.Core.Bool.{Bool, true, false}
use mathlib.Core.List.{List}
use Prim.Native.Nat.{ℕ, ◌+◌, ◌*◌, ◌/◌, ◌≤◌, ◌<◌}
use native.Mathlib.Omega.{arith}
use lib.Dec.{ltb}
use lib.ListN.{length, get_or}
use borrow.Author.Tests.{lt-ltb, le-ltb}
use Rattle.base.specs.Tests.{pick}
use Rattle.base.proofs.AllBelow.{pick_yes, pick_no}
use Rattle.base.proofs.Cases.{lt?}
use Rattle.words.specs.Word.{word, set_word}
use Rattle.words.proofs.Laws.{word-set_other}
use Rattle.words.proofs.Stores.{set_word-move}
use Rattle.records.specs.Layout.{counts_place, tally_place, peak_place, map_place, links_place, pages_from}
use Rattle.records.specs.Class.{pack_peak, peak_at, peak_spare}
use Rattle.image.specs.Image.{Image, write_at, paint, with_peaks}
use Rattle.image.proofs.Places.{class-apart, counts_peak, tally_peak, class-below}
use Rattle.image.proofs.Write.{length-write, byte_kept, set_past, word-past, word_write}

-- ---- peaks written

module _ (w : ℕ) (f : ℕ → ℕ) (s : List ℕ) where
  pub no-peaks : w ≤ 2 → with_peaks w f s ≡ s
  unfolding with_peaks
  no-peaks h = pick_no _ _ _ (le-ltb 2 w h)

  module _ (deep : 2 < w) where
    pub peaks_written_lem : with_peaks w f s ≡ write_at (peak_place w) 9 (λ c. pack_peak (f c)) s
    unfolding with_peaks
    peaks_written_lem = pick_yes _ _ _ (lt-ltb 2 w deep)

    module _ (room : 1 + 9 * w ≤ length s / 8) (c : ℕ) (h : c < 9) where
      word-is : word (with_peaks w f s) (peak_place w c) ≡ pack_peak (f c)
      word-is =
          ap (λ (t : List ℕ). word t (peak_place w c)) peaks_written_lem
          ∙ word_write (peak_place w) (λ i j d. omega (arith, class-apart w (omega arith) i j d)) 9 (λ d. pack_peak (f d)) s c h
          (omega (arith, class-below w (omega arith) c h))

      pub peak_shown : f c < 16777216 → peak_at w (with_peaks w f s) c ≡ f c
      unfolding peak_at pack_peak
      peak_shown l = rw word-is (omega arith)

      pub spare-shown : peak_spare w (with_peaks w f s) c ≡ 0
      unfolding peak_spare pack_peak
      spare-shown = rw word-is (omega arith)

  pub length-peaks : length (with_peaks w f s) ≡ length s
  unfolding with_peaks pick
  length-peaks = go (ltb 2 w)
    where
      go : (t : Bool) → length (pick t (write_at (peak_place w) 9 (λ c. pack_peak (f c)) s) s) ≡ length s
      go true = length-write (peak_place w) 9 _ s
      go false = refl

  -- the bytes past the records stay
  pub byte_peaks : (P i : ℕ) → pages_from w P ≤ i → get_or (with_peaks w f s) i 0 ≡ get_or s i 0
  byte_peaks P i h = go (lt? 2 w)
    where
      go : (2 < w) ⊎ (w ≤ 2) → get_or (with_peaks w f s) i 0 ≡ get_or s i 0
      go (inl l) =
          ap (λ (t : List ℕ). get_or t i 0) (peaks_written_lem l)
          ∙ byte_kept (peak_place w) 9 _ s i (λ c k. omega (arith, class-below w (omega arith) c k))
      go (inr l) = ap (λ (t : List ℕ). get_or t i 0) (no-peaks l)

-- ---- painting

module _ (w P : ℕ) (deep : 2 < w) (I : Image) (s : List ℕ) (c : ℕ) (h : c < 9) where
  pub peak_painted : word (paint w P I s) (peak_place w c) ≡ word s (peak_place w c)
  unfolding paint
  peak_painted =
      let below = class-below w (omega arith) c h in
      word-past (links_place w) P _ _ (peak_place w c) (λ i l. omega arith)
      ∙ word-past (map_place w) P _ _ (peak_place w c) (λ i l. omega arith)
      ∙ word-past (tally_place w) 9 _ _ (peak_place w c) (λ i l. tally_peak w (omega arith) deep i c)
      ∙ word-past (counts_place w) 9 _ _ (peak_place w c) (λ i l. counts_peak w (omega arith) deep i c)
      ∙ word-set_other s 0 (peak_place w c) _ (omega arith)

  -- a peak stored over a painting lies beneath it as well
  pub paint_peak : (v : ℕ) → set_word (paint w P I s) (peak_place w c) v ≡ paint w P I (set_word s (peak_place w c) v)
  unfolding paint
  paint_peak v =
      let below = class-below w (omega arith) c h in
      set_past (links_place w) P _ _ (peak_place w c) v (λ i l. omega arith)
      ∙ ap (write_at (links_place w) P _)
      (set_past (map_place w) P _ _ (peak_place w c) v (λ i l. omega arith)
      ∙ ap (write_at (map_place w) P _)
      (set_past (tally_place w) 9 _ _ (peak_place w c) v (λ i l. tally_peak w (omega arith) deep i c)
      ∙ ap (write_at (tally_place w) 9 _)
      (set_past (counts_place w) 9 _ _ (peak_place w c) v (λ i l. counts_peak w (omega arith) deep i c)
      ∙ ap (write_at (counts_place w) 9 _) (set_word-move s 0 (peak_place w c) _ v (omega arith)))))
