-- The mender's copy, record by record.
use mathlib.Core.Path.{◌≡◌, refl, sym, ap, ◌∙◌, fun_ext}
use mathlib.Core.Logic.{◌≢◌}
use mathlib.Core.Bool.{true}
use mathlib.Core.List.{List}
use Prim.Native.Nat.{ℕ, zero, suc, ◌≤◌, ◌<◌}
use native.Mathlib.Omega.{arith}
use Rattle.words.specs.Word.{Bytes, word, set_word}
use Rattle.words.proofs.Laws.{word_small}
use Rattle.records.specs.Layout.{counts_place, tally_place, map_place, links_place}
use Rattle.records.specs.Header.{pack_header, with_header}
use Rattle.records.specs.Class.{pack_counts, pack_tally, class_at, peak_at}
use Rattle.records.specs.Page.{pack_links}
use Rattle.records.proofs.Laws.{pack_unpack_tally}
use Rattle.model.specs.View.{used_of}
use Rattle.image.specs.Image.{Image, Same, header_of, write_at, paint, with_peaks}
use Rattle.image.proofs.Places.{counts-tally, class-below}
use Rattle.image.proofs.Write.{set_past}
use Rattle.image.proofs.Paint.{paint_ext}
use Rattle.rules.specs.Read.{read_fields}
use Rattle.rules.specs.Drawn.{state_image}
use Rattle.rules.specs.Bytes.{pages_in, image_of, fields_of}
use Rattle.drawing.specs.Draw.{mapped, draw, larger, raised}
use Rattle.drawing.proofs.Encoding.{fields_bounds}
use Rattle.drawing.proofs.Records.{write-back}
use Rattle.demands.specs.Calls.{redrawn}
use Rattle.mending.specs.Remade.{remade}
use Rattle.mending.specs.Mending.{shaped, table, repaired, mended_copy}
use Rattle.mending.specs.Mirror.{class_anew, image_anew, header_written, counts_written, links_written, peaks_written, written}
use Rattle.mending.proofs.Copy.{shape_is, repaired-fits, maps_stay, draw-peaks}
use Rattle.mending.proofs.Image.{image_anew_lem}

-- words written in other places change places
write_over : (at to : ℕ → ℕ) (n k : ℕ) (f g : ℕ → ℕ) (s : List ℕ) → ((i j : ℕ) → i < n → j < k → at i ≢ to j) → write_at at n f (write_at to k g s) ≡ write_at to k g (write_at at n f s)
unfolding write_at
write_over at to zero k f g s d = refl
write_over at to (suc n) k f g s d =
    ap (λ (x : List ℕ). set_word x (at n) (f n)) (write_over at to n k f g s (λ i j h l. d i j (omega arith) l))
    ∙ set_past to k g (write_at at n f s) (at n) (f n) (λ j l e. d n j (omega arith) l (sym e))

module _ (w : ℕ) (wide : 2 ≤ w) (narrow : w ≤ 255) (s : List ℕ) (B : Bytes s) (ok : shaped w s ≡ true) where
  same_image : Same (pages_in w s) (state_image (repaired w s)) (image_anew (fields_of w s) (pages_in w s))
  unfolding repaired table
  same_image =
      image_anew_lem (fields_of w s) (pages_in w s) (shape_is w wide narrow s B ok) (fields_bounds w s B) (repaired-fits w wide narrow s B ok).well

  drawn : draw w s (repaired w s) ≡ paint w (pages_in w s) (image_anew (fields_of w s) (pages_in w s)) s
  unfolding draw
  drawn =
      ap (λ (P : ℕ). paint w P (state_image (repaired w s)) (mapped w (repaired w s) s)) (repaired-fits w wide narrow s B ok).size
      ∙ ap (paint w (pages_in w s) (state_image (repaired w s))) (maps_stay w wide narrow s B ok)
      ∙ paint_ext w (pages_in w s) (state_image (repaired w s)) (image_anew (fields_of w s) (pages_in w s)) s same_image

  -- ---- maps and tallies are written as they stand

  abbrev n : ℕ
  n = pages_in w s

  abbrev I : Image
  I = image_anew (fields_of w s) n

  maps-back : write_at (map_place w) n I.map s ≡ s
  maps-back = write-back (map_place w) n I.map s B (λ p h. unfold image_anew fields_of image_of in refl)

  tallies-back : write_at (tally_place w) 9 (λ c. pack_tally (I.class c)) s ≡ s
  tallies-back =
      write-back (tally_place w) 9 (λ c. pack_tally (I.class c)) s B
      (λ c h. unfold image_anew class_anew fields_of image_of pack_tally in (tally-is c))
    where
      tally-is : (c : ℕ) → pack_tally (class_at w s c) ≡ word s (tally_place w c)
      tally-is c = unfold class_at in pack_unpack_tally _ _ (word_small s (tally_place w c) B)

  abbrev header : ℕ
  header = pack_header (header_of w n I.free_pages I.first_run)

  abbrev counts : ℕ → ℕ
  counts c = pack_counts (I.class c)

  abbrev tally : ℕ → ℕ
  tally c = pack_tally (I.class c)

  painted : paint w n I s ≡ links_written w s n (counts_written w s n (header_written w s n s))
  unfolding paint links_written counts_written header_written with_header image_anew
  painted = ap (write_at (links_place w) n (λ p. pack_links (I.links p))) (maps ∙ tallies)
    where
      maps : write_at (map_place w) n I.map (write_at (tally_place w) 9 tally (write_at (counts_place w) 9 counts (set_word s 0 header)))
          ≡ write_at (tally_place w) 9 tally (write_at (counts_place w) 9 counts (set_word s 0 header))
      maps =
          write_over (map_place w) (tally_place w) n 9 I.map tally _ (λ p c h l. omega (arith, class-below w wide c l))
          ∙ ap (write_at (tally_place w) 9 tally)
          (write_over (map_place w) (counts_place w) n 9 I.map counts _ (λ p c h l. omega (arith, class-below w wide c l))
          ∙ ap (write_at (counts_place w) 9 counts)
          (sym (set_past (map_place w) n I.map s 0 header (λ p h. omega arith)) ∙ ap (λ (x : List ℕ). set_word x 0 header) maps-back))

      tallies : write_at (tally_place w) 9 tally (write_at (counts_place w) 9 counts (set_word s 0 header)) ≡ write_at (counts_place w) 9 counts (set_word s 0 header)
      tallies =
          write_over (tally_place w) (counts_place w) 9 9 tally counts _ (λ c d h l e. counts-tally w wide d c (sym e))
          ∙ ap (write_at (counts_place w) 9 counts)
          (sym (set_past (tally_place w) 9 tally s 0 header (λ c h. omega arith)) ∙ ap (λ (x : List ℕ). set_word x 0 header) tallies-back)

  -- what is in use follows from the pages
  used-read : (c : ℕ) → used_of (repaired w s) c ≡ used_of (read_fields (fields_of w s) n) c
  unfolding used_of repaired remade table read_fields
  used-read c = refl

  pub copy_written : mended_copy w s ≡ written w s n
  unfolding mended_copy written peaks_written redrawn raised
  copy_written =
      draw-peaks w (λ c. larger (peak_at w s c) (used_of (repaired w s) c)) s (repaired w s)
      ∙ ap (with_peaks w (λ c. larger (peak_at w s c) (used_of (repaired w s) c))) (drawn ∙ painted)
      ∙ ap (λ (f : ℕ → ℕ). with_peaks w (λ c. larger (peak_at w s c) (f c)) (links_written w s n (counts_written w s n (header_written w s n s)))) (fun_ext used-read)
