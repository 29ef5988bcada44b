-- The stores of the code paint the conversion, where the source is sound.
use mathlib.Core.Path.{◌≡◌, refl, sym, ap, ◌∙◌}
use mathlib.Core.List.{List}
use Prim.Native.Nat.{ℕ}
use native.Mathlib.Omega.{arith}
use Rattle.words.specs.Word.{Bytes, word, set_word}
use Rattle.words.proofs.Laws.{word_small}
use Rattle.records.specs.Layout.{counts_place, tally_place, map_place, links_place}
use Rattle.records.specs.Header.{pack_header, header_at, with_header}
use Rattle.records.specs.Class.{class_at, pack_counts, pack_tally}
use Rattle.records.specs.Page.{links_at, pack_links}
use Rattle.records.proofs.Laws.{pack_unpack_counts, pack_unpack_tally, pack_unpack_links}
use Rattle.image.specs.Image.{header_of, write_at, paint, with_peaks}
use Rattle.image.proofs.Write.{write_ext}
use Rattle.image.proofs.Peaks.{peaks_written_lem}
use Rattle.rules.specs.Bytes.{pages_in, image_of, fields_of, broken_rule}
use Rattle.rules.proofs.Rule2.{rule2-says}
use Rattle.drawing.proofs.Laws.{none-broken}
use Rattle.convert.specs.Convert.{conversion}
use Rattle.convert.specs.Mirror.{words_copied, peaks_set, pages_laid, header_set, classes_copied, pages_copied, written}

module _ (s : List ℕ) (B : Bytes s) where
  counts-copied : (x : List ℕ) → words_copied 1 3 1 2 9 s x ≡ write_at (counts_place 3) 9 (λ c. pack_counts (class_at 2 s c)) x
  unfolding words_copied class_at
  counts-copied x = write_ext (counts_place 3) 9 _ _ x (λ c h. sym (pack_unpack_counts _ _ (word_small s (counts_place 2 c) B)))

  tally-copied : (x : List ℕ) → words_copied 2 3 2 2 9 s x ≡ write_at (tally_place 3) 9 (λ c. pack_tally (class_at 2 s c)) x
  unfolding words_copied class_at
  tally-copied x = write_ext (tally_place 3) 9 _ _ x (λ c h. sym (pack_unpack_tally _ _ (word_small s (tally_place 2 c) B)))

  map-copied : (P : ℕ) (x : List ℕ) → words_copied 28 2 19 2 P s x ≡ write_at (map_place 3) P (λ p. word s (map_place 2 p)) x
  unfolding words_copied
  map-copied P x = refl

  module _ (sound : broken_rule 2 s ≡ 0) where
    abbrev P : ℕ
    P = pages_in 2 s

    links-copied : (x : List ℕ) → words_copied 29 2 20 2 P s x ≡ write_at (links_place 3) P (λ p. pack_links (links_at 2 s p)) x
    unfolding words_copied links_at fields_of
    links-copied x =
        let two = (none-broken 2 s sound).1.two in
        write_ext (links_place 3) P _ _ x
        (λ p h. sym (pack_unpack_links _ (word_small s (links_place 2 p) B) ((rule2-says (fields_of 2 s) P two).links.spare p h)))

    peaks_set_lem : (x : List ℕ) → peaks_set s x ≡ with_peaks 3 (λ c. (class_at 2 s c).used) x
    unfolding peaks_set
    peaks_set_lem x = sym (peaks_written_lem 3 (λ c. (class_at 2 s c).used) x (omega arith))

    pub written_is : (t : List ℕ) → written P s t ≡ conversion P s t
    unfolding written pages_copied classes_copied header_set pages_laid with_header conversion paint image_of
    written_is t =
        links-copied _
        ∙ ap (write_at (links_place 3) P (λ p. pack_links (links_at 2 s p)))
        (map-copied P _
        ∙ ap (write_at (map_place 3) P (λ p. word s (map_place 2 p)))
        (tally-copied _
        ∙ ap (write_at (tally_place 3) 9 (λ c. pack_tally (class_at 2 s c)))
        (counts-copied _
        ∙ ap (λ (x : List ℕ). write_at (counts_place 3) 9 (λ c. pack_counts (class_at 2 s c)) (set_word x 0 (pack_header (header_of 3 P (header_at s).free_pages (header_at s).first_run.0))))
        (peaks_set_lem _))))
