-- Records written back as they stand change nothing, and painting leaves bytes.
use mathlib.Core.Path.{◌≡◌, refl, sym}
use mathlib.Core.List.{List}
use Prim.Native.Nat.{ℕ, zero, suc, ◌%◌, ◌≤◌, ◌<◌}
use native.Mathlib.Omega.{arith}
use Rattle.words.specs.Word.{Bytes, word, set_word}
use Rattle.words.proofs.Laws.{word_small, set_word-back, set_word-keeps}
use Rattle.records.specs.Layout.{counts_place, tally_place, map_place, links_place}
use Rattle.records.specs.Header.{pack_header, header_at}
use Rattle.records.specs.Class.{pack_counts, pack_tally, class_at}
use Rattle.records.specs.Page.{pack_links, links_at}
use Rattle.records.proofs.Laws.{pack_unpack_header, pack_unpack_counts, pack_unpack_tally, pack_unpack_links, header_small, counts-small, tally-small, links-small}
use Rattle.image.specs.Image.{Image, header_of, write_at, paint}
use Rattle.image.proofs.Fits.{Fits, header_fits}
use Rattle.rules.specs.Bytes.{pages_in, image_of}
use Rattle.rules.specs.Plain.{Rule1}

module _ (at : ℕ → ℕ) where
  pub write-back : (n : ℕ) (f : ℕ → ℕ) (s : List ℕ) → Bytes s → ((i : ℕ) → i < n → f i ≡ word s (at i)) → write_at at n f s ≡ s
  unfolding write_at
  write-back zero f s B e = refl
  write-back (suc n) f s B e = rw (write-back n f s B (λ i l. e i (omega arith)), e n (omega arith)) (set_word-back s (at n) B)

  pub write_keeps : (n : ℕ) (f : ℕ → ℕ) (s : List ℕ) → Bytes s → ((i : ℕ) → i < n → f i < 18446744073709551616) → Bytes (write_at at n f s)
  unfolding write_at
  write_keeps zero f s B h = B
  write_keeps (suc n) f s B h = set_word-keeps _ (at n) (f n) (write_keeps n f s B (λ i l. h i (omega arith))) (h n (omega arith))

pub paint-keeps : (w P : ℕ) (I : Image) (s : List ℕ) → w ≤ 255 → P < 65536 → Fits P I → ((p : ℕ) → p < P → I.map p < 18446744073709551616) → Bytes s
    → Bytes (paint w P I s)
unfolding paint
paint-keeps w P I s a b F M B =
    write_keeps (links_place w) P _ _
    (write_keeps (map_place w) P _ _
    (write_keeps (tally_place w) 9 _ _
    (write_keeps (counts_place w) 9 _ _
    (set_word-keeps s 0 _ B (header_small _ (header_fits w P _ _ a b F.free_pages F.first_run)))
    (λ c l. counts-small _ (F.class c l)))
    (λ c l. tally-small _ (F.class c l)))
    M)
    (λ p l. links-small _ (F.links p l))

-- ---- the records that a pool shows, painted over it

module _ (w : ℕ) (s : List ℕ) (B : Bytes s) (R : Rule1 w s) where
  header_is : header_of w (pages_in w s) (header_at s).free_pages (header_at s).first_run.0 ≡ header_at s
  header_is i = record {
    edition = sym R.edition i;
    min_shift = sym R.min_shift i;
    page_shift = sym R.page_shift i;
    pages = sym R.pages i;
    free_pages = (header_at s).free_pages;
    first_run = (header_at s).first_run;
  }

  header_back : pack_header (header_at s) ≡ word s 0
  unfolding header_at
  header_back = pack_unpack_header (word s 0) (word_small s 0 B)

  pub paint-back : ((p : ℕ) → p < pages_in w s → word s (links_place w p) % 512 ≡ 0) → paint w (pages_in w s) (image_of w s) s ≡ s
  unfolding paint image_of class_at links_at
  paint-back z =
      let h : set_word s 0 (pack_header (header_of w (pages_in w s) (header_at s).free_pages (header_at s).first_run.0)) ≡ s =
      rw (header_is, header_back) (set_word-back s 0 B) in
      rw (
        h,
        write-back (counts_place w) 9 (λ c. pack_counts (class_at w s c)) s B (λ c l. pack_unpack_counts _ _ (word_small s (counts_place w c) B)),
        write-back (tally_place w) 9 (λ c. pack_tally (class_at w s c)) s B (λ c l. pack_unpack_tally _ _ (word_small s (tally_place w c) B)),
        write-back (map_place w) (pages_in w s) (λ p. word s (map_place w p)) s B (λ p l. refl),
        write-back (links_place w) (pages_in w s) (λ p. pack_links (links_at w s p)) s B (λ p l. pack_unpack_links _ (word_small s (links_place w p) B) (z p l)),
      )
