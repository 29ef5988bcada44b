-- The drawing of a state shows the state's fields.
use mathlib.Core.Path.{◌≡◌, sym, ap, ◌∙◌, fun_ext}
use mathlib.Core.Logic.{◌⊎◌, inl, inr}
use mathlib.Core.Bool.{Bool, true, false}
use mathlib.Core.List.{List}
use Prim.Native.Nat.{ℕ, ◌+◌, ◌*◌, ◌/◌, ◌%◌, ◌≤◌, ◌<◌}
use native.Mathlib.Omega.{arith}
use lib.Dec.{ltb, lit<}
use lib.ListN.{length, get_or}
use borrow.Author.Tests.{le-ltb}
use Rattle.base.specs.Tests.{pick}
use Rattle.base.proofs.Cases.{lt?, bool?}
use Rattle.words.specs.Word.{Bytes, word}
use Rattle.words.proofs.Laws.{length-set_word}
use Rattle.records.specs.Layout.{counts_place, tally_place, map_place, links_place, pages_from, page_count}
use Rattle.records.specs.declared.Header.{Header}
use Rattle.records.specs.declared.Links.{Links}
use Rattle.records.specs.Header.{header_at}
use Rattle.records.specs.Page.{pack_links, links_at}
use Rattle.model.specs.Classes.{chunks, max_pages}
use Rattle.model.specs.State.{Page, idle, slab, taken, inside, edge, State}
use Rattle.model.specs.WellFormed.{WellFormed}
use Rattle.model.proofs.Table.{slab_ok}
use Rattle.maps.specs.Bitmap.{mark, bits_of}
use Rattle.maps.proofs.Bits.{bits_small, bit_byte}
use Rattle.maps.proofs.Words.{word-mark}
use Rattle.image.specs.Image.{header_of, paint, Same}
use Rattle.image.proofs.Fits.{Fits, header_fits}
use Rattle.image.proofs.Write.{length-write, word_write}
use Rattle.image.proofs.Paint.{length-paint, byte_shown, links-shown, map-shown, class-shown, header_shown}
use Rattle.rules.specs.Drawn.{page_links, map_of, state_image, state_fields}
use Rattle.rules.specs.Bytes.{pages_in, mark_at, image_of, fields_of, rule1}
use Rattle.rules.specs.Agree.{Agree}
use Rattle.rules.specs.Fields.{class}
use Rattle.rules.proofs.Shown.{slab-is}
use Rattle.rules.proofs.Fits.{state-fits}
use Rattle.drawing.specs.Draw.{in_map, mapped, draw}
use Rattle.model.proofs.Classes.{small-chunks, large-chunks}
use Rattle.drawing.proofs.Mapped.{length-mapped, mapped-kept, mapped-keeps, mapped-map}
use Rattle.drawing.proofs.Encoding.{mark-past, mark_paged, mark_recorded}
use Rattle.rules.proofs.Rule1.{rule1-holds}
use Rattle.drawing.proofs.Records.{paint-keeps}

pub map-small : (x : Page) → map_of x < 18446744073709551616
map-small idle = lit< tt
map-small (slab c k) = go (bool? (ltb c 3))
  where
    go : (ltb c 3 ≡ true) ⊎ (ltb c 3 ≡ false) → pick (ltb c 3) 0 (bits_of k 64) < 18446744073709551616
    go (inl e) = unfold pick in rw e (lit< tt)
    go (inr e) = unfold pick in rw e (bits_small k 64)
map-small (taken n) = lit< tt
map-small inside = lit< tt
map-small edge = lit< tt

packed_spare : (l : Links) → pack_links l % 512 ≡ 0
unfolding pack_links
packed_spare l = omega arith

module _ (w : ℕ) (wide : 2 ≤ w) (s : List ℕ) (m : State) where
  pub length_drawn : length (draw w s m) ≡ length s
  unfolding draw
  length_drawn = length-paint w m.size wide (state_image m) (mapped w m s) ∙ length-mapped w m s

  -- past the records, the bytes outside the state's maps stay
  pub drawn_kept : (i : ℕ) → pages_from w m.size ≤ i → in_map (pages_from w m.size) m i ≡ false → get_or (draw w s m) i 0 ≡ get_or s i 0
  unfolding draw
  drawn_kept i h e = byte_shown w m.size wide (state_image m) (mapped w m s) i h ∙ mapped-kept w m s i e

  module _ (size : m.size ≡ pages_in w s) where
    pub pages_drawn : pages_in w (draw w s m) ≡ m.size
    pages_drawn = ap (page_count w) length_drawn ∙ sym size

    module _ (narrow : w ≤ 255) (W : WellFormed m) (few : m.size ≤ 4096) where
      F : Fits m.size (state_image m)
      F = state-fits W few

      room : 8 + 72 * w + 4112 * m.size ≤ length s
      room = omega (arith, W.some-page)

      records_room : 1 + 9 * w + 2 * m.size ≤ length (mapped w m s) / 8
      records_room = rw (length-mapped w m s) (omega (arith, room))

      pub drawn_keeps : Bytes s → Bytes (draw w s m)
      unfolding draw state_image
      drawn_keeps B = paint-keeps w m.size (state_image m) (mapped w m s) narrow (omega arith) F (λ p h. map-small (m.page p)) (mapped-keeps w m s B)

      -- ---- records

      header_drawn : header_at (draw w s m) ≡ header_of w m.size (state_image m).free_pages (state_image m).first_run
      unfolding draw
      header_drawn =
          header_shown w m.size wide (state_image m) (mapped w m s) records_room
          (header_fits w m.size _ _ narrow (omega arith) F.free_pages F.first_run)

      links_drawn : (p : ℕ) → p < m.size → links_at w (draw w s m) p ≡ (state_image m).links p
      unfolding draw
      links_drawn p h = links-shown w m.size wide (state_image m) (mapped w m s) records_room p h (F.links p h)

      map_drawn : (p : ℕ) → p < m.size → word (draw w s m) (map_place w p) ≡ (state_image m).map p
      unfolding draw
      map_drawn p h = map-shown w m.size wide (state_image m) (mapped w m s) records_room p h

      image_drawn : Same m.size (image_of w (draw w s m)) (state_image m)
      unfolding image_of
      image_drawn = record {
        free_pages = ap (λ (h : Header). h.free_pages) header_drawn;
        first_run = ap (λ (h : Header). h.first_run.0) header_drawn;
        class = λ c h. unfold draw in class-shown w m.size wide (state_image m) (mapped w m s) records_room c h (F.class c h);
        map = map_drawn;
        links = links_drawn;
      }

      spare_drawn : (p : ℕ) → p < m.size → word (draw w s m) (links_place w p) % 512 ≡ 0
      unfolding draw paint
      spare_drawn p h =
          ap (λ (x : ℕ). x % 512)
          (word_write (links_place w) (λ i j d. omega arith) m.size (λ q. pack_links ((state_image m).links q)) _ p h
          (rw (length-write (map_place w), length-write (tally_place w), length-write (counts_place w), length-set_word) (omega (arith, records_room))))
          ∙ packed_spare _

      pub rule1_drawn : m.size ≤ max_pages → rule1 w (draw w s m) ≡ true
      rule1_drawn most =
          rule1-holds w (draw w s m) (record {
            some = omega (arith, room, length_drawn, W.some-page);
            few = rw pages_drawn most;
            edition = ap (λ (h : Header). h.edition) header_drawn;
            min_shift = ap (λ (h : Header). h.min_shift) header_drawn;
            page_shift = ap (λ (h : Header). h.page_shift) header_drawn;
            pages = ap (λ (h : Header). h.pages) header_drawn ∙ sym pages_drawn;
          })

      -- ---- marks

      module _ (B : Bytes s) where
        module _ (p c : ℕ) (k : ℕ → Bool) (h : p < m.size) (e : m.page p ≡ slab c k) where
          -- in the page
          paged : c < 3 → (i : ℕ) → i < chunks c → mark (draw w s m) (pages_from w m.size + 4096 * p) i ≡ k i
          unfolding mark draw
          paged a i l =
              let j : ℕ = i / 8 in
              let z : 8 * j + i % 8 ≡ i = omega arith in
              let (d, y, u) = small-chunks c a in
              rw (byte_shown w m.size wide (state_image m) (mapped w m s) (pages_from w m.size + 4096 * p + j) (omega arith), mapped-map w m s p c k e a j (omega arith) (omega (arith, room)))
              (bit_byte (λ x. k (8 * j + x)) (i % 8) (omega arith) ∙ ap k z)

          -- in the record
          recorded : 3 ≤ c → (i : ℕ) → i < chunks c → mark (draw w s m) (8 * map_place w p) i ≡ k i
          unfolding state_image pick
          recorded a i l =
              word-mark (draw w s m) (drawn_keeps B) (map_place w p) (omega (arith, room, length_drawn)) k
              (map_drawn p h ∙ rw (e, le-ltb c 3 a)) i (omega (arith, large-chunks c a))

          mark_drawn : (i : ℕ) → mark_at w (draw w s m) p c i ≡ k i
          mark_drawn i = go (lt? i (chunks c)) (lt? c 3)
            where
              go : (i < chunks c) ⊎ (chunks c ≤ i) → (c < 3) ⊎ (3 ≤ c) → mark_at w (draw w s m) p c i ≡ k i
              go (inr l) a = mark-past w (draw w s m) p c i l ∙ sym ((slab_ok W.table e).past_clear i l)
              go (inl l) (inl a) = mark_paged w (draw w s m) p c i a l ∙ rw pages_drawn (paged a i l)
              go (inl l) (inr a) = mark_recorded w (draw w s m) p c i a l ∙ recorded a i l

        pub drawn_shows : Agree m.size (fields_of w (draw w s m)) (state_fields m)
        unfolding fields_of state_fields
        drawn_shows = record {
          image_same = image_drawn;
          spare = spare_drawn;
          marks = λ p h e.
              unfold image_of state_image in
              let l : links_at w (draw w s m) p ≡ page_links m.runs m.lists p (m.page p) = links_drawn p h in
              let z : m.page p ≡ slab (class (state_fields m) p) ((state_fields m).mark p) = slab-is W p h (sym (ap (λ (x : Links). x.kind) l) ∙ e) in
              fun_ext (λ i. ap (λ (x : Links). mark_at w (draw w s m) p x.class i) l ∙ mark_drawn p _ _ h z i);
        }
