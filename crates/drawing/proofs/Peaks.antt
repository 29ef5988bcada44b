-- The peaks beneath a drawing.
use mathlib.Core.Path.{◌≡◌, refl, sym, ap, ◌∙◌}
use mathlib.Core.Logic.{◌⊎◌, inl, inr, ⊎_elim, ◌≢◌}
use mathlib.Core.List.{List}
use Prim.Native.Nat.{ℕ, ◌+◌, ◌*◌, ◌/◌, ◌≤◌, ◌<◌}
use native.Mathlib.Omega.{arith}
use lib.ListN.{length, get_or}
use lib.Seq.{ext_get_or}
use borrow.Author.Tests.{le-leb, lt-leb}
use Rattle.base.specs.Tests.{pick}
use Rattle.base.specs.Functions.{upd}
use Rattle.base.proofs.Cases.{eq?, lt?}
use Rattle.base.proofs.Functions.{upd_same, upd_other}
use Rattle.words.specs.Word.{Bytes, word, set_word}
use Rattle.words.proofs.Laws.{words, here?, word_in, word_out, word_small, length-set_word, set_word-outside}
use Rattle.records.specs.Layout.{peak_place, pages_from}
use Rattle.records.specs.Class.{pack_peak, peak_at, peak_spare, with_peak}
use Rattle.model.specs.State.{State}
use Rattle.model.specs.View.{used_of}
use Rattle.image.specs.Image.{with_peaks}
use Rattle.image.proofs.Places.{class-apart, class-below}
use Rattle.image.proofs.Write.{write_ext, set-write}
use Rattle.image.proofs.Peaks.{no-peaks, peaks_written_lem, peak_shown, spare-shown, length-peaks, byte_peaks, peak_painted, paint_peak}
use Rattle.drawing.specs.Draw.{larger, mapped, draw, raised}
use Rattle.drawing.specs.Claim.{Peaked}
use Rattle.drawing.proofs.Records.{write-back, write_keeps}
use Rattle.drawing.proofs.Mapped.{length-mapped, mapped-records, mapped-alike}
use Rattle.drawing.proofs.Over.{set_word-alike}

-- ---- the larger of two

module _ (a b : ℕ) where
  pub larger-left : b ≤ a → larger a b ≡ a
  unfolding pick
  larger-left h = go (lt? a b)
    where
      go : (a < b) ⊎ (b ≤ a) → larger a b ≡ a
      go (inl l) = absurd (omega arith)
      go (inr l) = go' (lt? b a)
        where
          go' : (b < a) ⊎ (a ≤ b) → larger a b ≡ a
          go' (inl k) = rw (lt-leb a b k)
          go' (inr k) = rw (le-leb a b k) (omega arith)

  pub larger_right : a ≤ b → larger a b ≡ b
  unfolding pick
  larger_right h = rw (le-leb a b h)

-- ---- drawn over

module _ (w : ℕ) (deep : 2 < w) (s : List ℕ) (m : State) where
  word-mapped : (k : ℕ) → 8 * k + 8 ≤ pages_from w m.size → word (mapped w m s) k ≡ word s k
  word-mapped k h =
      ⊎_elim
      (λ (l : k < length s / 8).
      word_in (mapped w m s) k (rw (length-mapped w m s) l) ∙ words.reads (mapped w m s) s (8 * k) (λ i a b. mapped-records w m s i (omega arith))
      ∙ sym (word_in s k l))
      (λ (l : length s / 8 ≤ k). word_out (mapped w m s) k (rw (length-mapped w m s) l) ∙ sym (word_out s k l))
      (here? s k)

  mapped-set : (k v : ℕ) → 8 * k + 8 ≤ pages_from w m.size → mapped w m (set_word s k v) ≡ set_word (mapped w m s) k v
  mapped-set k v h =
      ext_get_or 0 _ _ (length-mapped w m (set_word s k v) ∙ length-set_word s k v ∙ sym (length-mapped w m s) ∙ sym (length-set_word (mapped w m s) k v))
      (λ i l. go i (lt? i (pages_from w m.size)))
    where
      go : (i : ℕ) → (i < pages_from w m.size) ⊎ (pages_from w m.size ≤ i) → get_or (mapped w m (set_word s k v)) i 0 ≡ get_or (set_word (mapped w m s) k v) i 0
      go i (inl l) =
          mapped-records w m (set_word s k v) i l
          ∙ sym (set_word-alike k v i (record { lengths = length-mapped w m s; byte = mapped-records w m s i l })).byte
      go i (inr l) =
          mapped-alike w m (set_word s k v) s (length-set_word s k v) i (λ f. set_word-outside s k v i (inr (omega arith)))
          ∙ sym (set_word-outside (mapped w m s) k v i (inr (omega arith)))

  module _ (c : ℕ) (h : c < 9) where
    low : 8 * peak_place w c + 8 ≤ pages_from w m.size
    low = omega (arith, class-below w (omega arith) c h)

    word_drawn : word (draw w s m) (peak_place w c) ≡ word s (peak_place w c)
    unfolding draw
    word_drawn = peak_painted w m.size deep _ (mapped w m s) c h ∙ word-mapped (peak_place w c) low

    pub peak_drawn : peak_at w (draw w s m) c ≡ peak_at w s c
    unfolding peak_at
    peak_drawn = rw word_drawn

    pub spare_drawn : peak_spare w (draw w s m) c ≡ peak_spare w s c
    unfolding peak_spare
    spare_drawn = rw word_drawn

    -- a peak stored over a drawing
    pub drawn_peak : (v : ℕ) → set_word (draw w s m) (peak_place w c) v ≡ draw w (set_word s (peak_place w c) v) m
    unfolding draw
    drawn_peak v = paint_peak w m.size deep _ (mapped w m s) c h v ∙ rw (mapped-set (peak_place w c) v low)

-- ---- raised

pack_back : (w : ℕ) (s : List ℕ) → Bytes s → (c : ℕ) → peak_spare w s c ≡ 0 → pack_peak (peak_at w s c) ≡ word s (peak_place w c)
unfolding pack_peak peak_at peak_spare
pack_back w s B c z = let y : word s (peak_place w c) < 18446744073709551616 = word_small s (peak_place w c) B in omega arith

pub peaks-keep : (w : ℕ) (f : ℕ → ℕ) (s : List ℕ) → Bytes s → Bytes (with_peaks w f s)
peaks-keep w f s B = go (lt? 2 w)
  where
    go : (2 < w) ⊎ (w ≤ 2) → Bytes (with_peaks w f s)
    go (inl l) = rw (peaks_written_lem w f s l) (write_keeps (peak_place w) 9 _ s B (λ c h. unfold pack_peak in omega arith))
    go (inr l) = rw (no-peaks w f s l) B

module _ (w : ℕ) (s : List ℕ) (m : State) where
  pub raised-length : length (raised w s m) ≡ length s
  unfolding raised
  raised-length = length-peaks w _ s

  pub raised-kept : (P i : ℕ) → pages_from w P ≤ i → get_or (raised w s m) i 0 ≡ get_or s i 0
  unfolding raised
  raised-kept P i h = byte_peaks w _ s P i h

  pub raised-bytes : Bytes s → Bytes (raised w s m)
  unfolding raised
  raised-bytes = peaks-keep w _ s

  module _ (room : 1 + 9 * w ≤ length s / 8) (small : (c : ℕ) → c < 9 → used_of m c < 16777216) where
    pub raised_peak : 2 < w → (c : ℕ) → c < 9 → peak_at w (raised w s m) c ≡ larger (peak_at w s c) (used_of m c)
    unfolding raised
    raised_peak deep c h = peak_shown w (λ d. larger (peak_at w s d) (used_of m d)) s deep room c h (go (lt? (peak_at w s c) (used_of m c)))
      where
        go : (peak_at w s c < used_of m c) ⊎ (used_of m c ≤ peak_at w s c) → larger (peak_at w s c) (used_of m c) < 16777216
        go (inl l) = rw (larger_right (peak_at w s c) (used_of m c) (omega arith)) (small c h)
        go (inr l) = rw (larger-left (peak_at w s c) (used_of m c) l) (unfold peak_at in omega arith)

    pub raised_peaked : Peaked w (raised w s m) m
    unfolding raised
    raised_peaked = record {
      high = λ deep c h. rw (raised_peak deep c h) (above c);
      spare = λ deep c h. spare-shown w (λ d. larger (peak_at w s d) (used_of m d)) s deep room c h;
    }
      where
        above : (c : ℕ) → used_of m c ≤ larger (peak_at w s c) (used_of m c)
        above c = go (lt? (peak_at w s c) (used_of m c))
          where
            go : (peak_at w s c < used_of m c) ⊎ (used_of m c ≤ peak_at w s c) → used_of m c ≤ larger (peak_at w s c) (used_of m c)
            go (inl l) = rw (larger_right (peak_at w s c) (used_of m c) (omega arith)) (omega arith)
            go (inr l) = rw (larger-left (peak_at w s c) (used_of m c) l) l

  -- where the peaks are high enough nothing is raised
  pub raised_same : Bytes s → Peaked w s m → raised w s m ≡ s
  unfolding raised
  raised_same B Q = go (lt? 2 w)
    where
      word-is : 2 < w → (c : ℕ) → c < 9 → pack_peak (larger (peak_at w s c) (used_of m c)) ≡ word s (peak_place w c)
      word-is deep c h = ap pack_peak (larger-left (peak_at w s c) (used_of m c) (Q.high deep c h)) ∙ pack_back w s B c (Q.spare deep c h)

      go : (2 < w) ⊎ (w ≤ 2) → with_peaks w (λ c. larger (peak_at w s c) (used_of m c)) s ≡ s
      go (inl l) = peaks_written_lem w _ s l ∙ write-back (peak_place w) 9 _ s B (λ c h. word-is l c h)
      go (inr l) = no-peaks w _ s l

-- ---- one peak raised

module _ (w : ℕ) (deep : 2 < w) (s : List ℕ) (B : Bytes s) (m : State) (c : ℕ) (h : c < 9)
    (spare : (d : ℕ) → d < 9 → peak_spare w s d ≡ 0) (others : (d : ℕ) → d < 9 → d ≢ c → used_of m d ≤ peak_at w s d) where
  abbrev at_words : ℕ → ℕ
  at_words d = word s (peak_place w d)

  raised_at : (d : ℕ) → d < 9 → upd at_words c (pack_peak (larger (peak_at w s c) (used_of m c))) d ≡ pack_peak (larger (peak_at w s d) (used_of m d))
  raised_at d l = go (eq? d c)
    where
      v : ℕ
      v = pack_peak (larger (peak_at w s c) (used_of m c))

      go : (d ≡ c) ⊎ (d ≢ c) → upd at_words c v d ≡ pack_peak (larger (peak_at w s d) (used_of m d))
      go (inl e) = rw (e, upd_same at_words c v)
      go (inr n) =
          upd_other at_words c v d n ∙ sym (ap pack_peak (larger-left (peak_at w s d) (used_of m d) (others d l n)) ∙ pack_back w s B d (spare d l))

  pub raised_one : peak_at w s c ≤ used_of m c → with_peak w s c (used_of m c) ≡ raised w s m
  unfolding raised with_peak
  raised_one l =
      ap (λ (n : ℕ). set_word s (peak_place w c) (pack_peak n)) (sym (larger_right (peak_at w s c) (used_of m c) l))
      ∙ ap (λ (t : List ℕ). set_word t (peak_place w c) (pack_peak (larger (peak_at w s c) (used_of m c)))) (sym (write-back (peak_place w) 9 at_words s B (λ d k. refl)))
      ∙ set-write (peak_place w) (λ i j d. omega (arith, class-apart w (omega arith) i j d)) 9 at_words s c (pack_peak (larger (peak_at w s c) (used_of m c))) h
      ∙ write_ext (peak_place w) 9 _ _ s (λ d k. raised_at d k)
      ∙ sym (peaks_written_lem w _ s deep)
