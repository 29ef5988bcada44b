-- What is painted or drawn over a painting: the later stands, but for the maps in pages that the earlier wrote.
use mathlib.Core.Path.{◌≡◌, refl, sym, ap, ◌∙◌}
use mathlib.Core.Logic.{◌⊎◌, inl, inr, ◌≢◌}
use mathlib.Core.Bool.{false}
use mathlib.Core.List.{List}
use Prim.Native.Nat.{ℕ, zero, suc, ◌+◌, ◌-◌, ◌*◌, ◌/◌, ◌%◌, ◌≤◌, ◌<◌}
use native.Mathlib.Omega.{arith}
use lib.ListN.{length, get_or, set, length-set, get_or-eq_default}
use lib.Seq.{ext_get_or, get_or-set_same}
use Rattle.base.proofs.Cases.{lt?, in?, Out}
use Rattle.words.specs.Word.{with_half, with_word, set_word}
use Rattle.words.proofs.Cell.{Cell, one}
use Rattle.words.proofs.Laws.{pairs, halves, here?, set_in, set_out, length-set_word, set_word-outside}
use Rattle.words.proofs.Stores.{set_word_same}
use Rattle.records.specs.Layout.{counts_place, tally_place, map_place, links_place, pages_from}
use Rattle.records.specs.Header.{pack_header, with_header}
use Rattle.records.specs.Class.{pack_counts, pack_tally}
use Rattle.records.specs.Page.{pack_links}
use Rattle.model.specs.State.{State}
use Rattle.image.specs.Image.{Image, header_of, write_at, paint}
use Rattle.image.proofs.Places.{class-apart, counts-tally, class-below}
use Rattle.image.proofs.Write.{set_past}
use Rattle.image.proofs.Paint.{length-paint, header_paint, byte_shown}
use Rattle.rules.specs.Drawn.{state_image}
use Rattle.drawing.specs.Draw.{map_has, in_map, mapped, draw}
use Rattle.drawing.proofs.Mapped.{map-before, map_at, length-mapped, mapped-kept, mapped-alike, mapped-records}

-- ---- words written twice

module _ (at : ℕ → ℕ) where
  -- over themselves: the later stands
  write_same : (n : ℕ) (f g : ℕ → ℕ) (s : List ℕ) → ((i j : ℕ) → i ≢ j → at i ≢ at j) → write_at at n f (write_at at n g s) ≡ write_at at n f s
  unfolding write_at
  write_same zero f g s d = refl
  write_same (suc n) f g s d =
      rw (← set_past at n f (write_at at n g s) (at n) (g n) (λ i l. d i n (omega arith)), write_same n f g s d)
      (set_word_same (write_at at n f s) (at n) (g n) (f n))

  -- over other words: they change places
  write-move : (to : ℕ → ℕ) (n k : ℕ) (f g : ℕ → ℕ) (s : List ℕ) → ((i j : ℕ) → i < n → j < k → at i ≢ to j) →
      write_at at n f (write_at to k g s) ≡ write_at to k g (write_at at n f s)
  unfolding write_at
  write-move to n zero f g s d = refl
  write-move to n (suc k) f g s d =
      rw (← set_past at n f (write_at to k g s) (to k) (g k) (λ i l. d i k l (omega arith)), write-move to n k f g s (λ i j a b. d i j a (omega arith)))

-- ---- an image painted over another

module _ (w P : ℕ) (wide : 2 ≤ w) where
  abbrev on_counts : Image → List ℕ → List ℕ
  on_counts I s = write_at (counts_place w) 9 (λ c. pack_counts (I.class c)) s

  abbrev on_tally : Image → List ℕ → List ℕ
  on_tally I s = write_at (tally_place w) 9 (λ c. pack_tally (I.class c)) s

  abbrev on_map : Image → List ℕ → List ℕ
  on_map I s = write_at (map_place w) P I.map s

  abbrev on_links : Image → List ℕ → List ℕ
  on_links I s = write_at (links_place w) P (λ p. pack_links (I.links p)) s

  pub paint_over : (I J : Image) (s : List ℕ) → paint w P I (paint w P J s) ≡ paint w P I s
  unfolding paint
  paint_over I J s =
      ap (λ (x : List ℕ). on_links I (on_map I (on_tally I (on_counts I x)))) header
      ∙ ap (λ (x : List ℕ). on_links I (on_map I (on_tally I x))) (counts (on_header I))
      ∙ ap (λ (x : List ℕ). on_links I (on_map I x)) (tally (on_counts I (on_header I)))
      ∙ ap (on_links I) (map (on_tally I (on_counts I (on_header I))))
      ∙ write_same (links_place w) P _ _ _ (λ i j d. omega arith)
    where
      on_header : Image → List ℕ
      on_header K = set_word s 0 (pack_header (header_of w P K.free_pages K.first_run))

      header : set_word (on_links J (on_map J (on_tally J (on_counts J (on_header J))))) 0 (pack_header (header_of w P I.free_pages I.first_run))
          ≡ on_links J (on_map J (on_tally J (on_counts J (on_header I))))
      header = unfold paint with_header in header_paint w P wide J s I.free_pages I.first_run

      counts : (x : List ℕ) → on_counts I (on_links J (on_map J (on_tally J (on_counts J x)))) ≡ on_links J (on_map J (on_tally J (on_counts I x)))
      counts x =
          write-move (counts_place w) (links_place w) 9 P _ _ _ (λ c p h l. omega (arith, class-below w wide c h))
          ∙ ap (on_links J)
          (write-move (counts_place w) (map_place w) 9 P _ _ _ (λ c p h l. omega (arith, class-below w wide c h))
          ∙ ap (on_map J)
          (write-move (counts_place w) (tally_place w) 9 9 _ _ _ (λ c d h l. counts-tally w wide c d)
          ∙ ap (on_tally J) (write_same (counts_place w) 9 _ _ _ (λ i j d. omega (arith, class-apart w wide i j d)))))

      tally : (x : List ℕ) → on_tally I (on_links J (on_map J (on_tally J x))) ≡ on_links J (on_map J (on_tally I x))
      tally x =
          write-move (tally_place w) (links_place w) 9 P _ _ _ (λ c p h l. omega (arith, class-below w wide c h))
          ∙ ap (on_links J)
          (write-move (tally_place w) (map_place w) 9 P _ _ _ (λ c p h l. omega (arith, class-below w wide c h))
          ∙ ap (on_map J) (write_same (tally_place w) 9 _ _ _ (λ i j d. omega (arith, class-apart w wide i j d))))

      map : (x : List ℕ) → on_map I (on_links J (on_map J x)) ≡ on_links J (on_map I x)
      map x =
          write-move (map_place w) (links_place w) P P _ _ _ (λ p q h l. omega arith)
          ∙ ap (on_links J) (write_same (map_place w) P _ _ _ (λ i j d. omega arith))

-- ---- a byte of a painting depends on that byte alone

-- what a number put leaves in its own places depends on the number alone
record Puts (n : ℕ) (put : List ℕ → ℕ → ℕ → List ℕ) : Type 0 where
  inside : (s t : List ℕ) (at v i : ℕ) → length s ≡ length t → at ≤ i → i < at + n → get_or (put s at v) i 0 ≡ get_or (put t at v) i 0

one_puts : Puts 1 set
one_puts = record { inside = λ s t at v i l a b. let e : i ≡ at = omega arith in rw e (go s t at v l (lt? at (length s))) }
  where
    go : (s t : List ℕ) (at v : ℕ) → length s ≡ length t → (at < length s) ⊎ (length s ≤ at) → get_or (set s at v) at 0 ≡ get_or (set t at v) at 0
    go s t at v l (inl h) = get_or-set_same s at v 0 h ∙ sym (get_or-set_same t at v 0 (omega arith))
    go s t at v l (inr h) =
        get_or-eq_default (set s at v) 0 {n = at} (rw (length-set s at v) h) ∙ sym (get_or-eq_default (set t at v) 0 {n = at} (rw (length-set t at v) (omega arith)))

double_puts : {n b : ℕ} {get : List ℕ → ℕ → ℕ} {put : List ℕ → ℕ → ℕ → List ℕ} → Cell n b get put → Puts n put
    → Puts (n + n) (λ s at v. put (put s at (v / b)) (at + n) (v % b))
double_puts {n} {b} {get} {put} C D = record { inside = λ s t at v i l x y. go s t at v i l x y (lt? i (at + n)) }
  where
    go : (s t : List ℕ) (at v i : ℕ) → length s ≡ length t → at ≤ i → i < at + (n + n) → (i < at + n) ⊎ (at + n ≤ i)
        → get_or (put (put s at (v / b)) (at + n) (v % b)) i 0 ≡ get_or (put (put t at (v / b)) (at + n) (v % b)) i 0
    go s t at v i l x y (inl h) =
        C.outside _ (at + n) _ i (inl h) ∙ D.inside s t at (v / b) i l x h ∙ sym (C.outside _ (at + n) _ i (inl h))
    go s t at v i l x y (inr h) = D.inside _ _ (at + n) (v % b) i (C.len s at _ ∙ l ∙ sym (C.len t at _)) h (omega arith)

word-puts : Puts 8 with_word
unfolding with_word with_half
word-puts = double_puts halves (double_puts pairs (double_puts one one_puts))

-- two lists of one length that have the same byte i
pub record Alike (i : ℕ) (s t : List ℕ) : Type 0 where
  pub lengths : length s ≡ length t
  pub byte : get_or s i 0 ≡ get_or t i 0

pub set_word-alike : {s t : List ℕ} (k v i : ℕ) → Alike i s t → Alike i (set_word s k v) (set_word t k v)
set_word-alike {s} {t} k v i A = record {
  lengths = length-set_word s k v ∙ A.lengths ∙ sym (length-set_word t k v);
  byte = go (in? (8 * k) 8 i) (here? s k);
}
  where
    go : ((8 * k ≤ i) × (i < 8 * k + 8)) ⊎ Out (8 * k) 8 i → (k < length s / 8) ⊎ (length s / 8 ≤ k) → get_or (set_word s k v) i 0 ≡ get_or (set_word t k v) i 0
    go (inr o) h = set_word-outside s k v i o ∙ A.byte ∙ sym (set_word-outside t k v i o)
    go (inl (a, b)) (inl h) = rw (set_in s k v h, set_in t k v (rw (sym A.lengths) h)) (word-puts.inside s t (8 * k) v i A.lengths a b)
    go (inl (a, b)) (inr h) = rw (set_out s k v h, set_out t k v (rw (sym A.lengths) h)) A.byte

write-alike : {s t : List ℕ} (at : ℕ → ℕ) (n : ℕ) (f : ℕ → ℕ) (i : ℕ) → Alike i s t → Alike i (write_at at n f s) (write_at at n f t)
unfolding write_at
write-alike at zero f i A = A
write-alike at (suc n) f i A = set_word-alike (at n) (f n) i (write-alike at n f i A)

pub paint-alike : {s t : List ℕ} (w P : ℕ) (I : Image) (i : ℕ) → Alike i s t → Alike i (paint w P I s) (paint w P I t)
unfolding paint
paint-alike w P I i A =
    write-alike (links_place w) P _ i
    (write-alike (map_place w) P _ i (write-alike (tally_place w) 9 _ i (write-alike (counts_place w) 9 _ i (set_word-alike 0 _ i A))))

-- ---- drawings

module _ (w : ℕ) (wide : 2 ≤ w) where
  -- the maps in pages and the records are written in either order
  pub mapped-paint : (m : State) (I : Image) (s : List ℕ) → mapped w m (paint w m.size I s) ≡ paint w m.size I (mapped w m s)
  mapped-paint m I s =
      ext_get_or 0 _ _ (length-mapped w m t ∙ length-paint w P wide I s ∙ sym (length-mapped w m s) ∙ sym (length-paint w P wide I (mapped w m s)))
      (λ i l. go i (lt? i (pages_from w P)))
    where
      P : ℕ
      P = m.size

      t : List ℕ
      t = paint w P I s

      go : (i : ℕ) → (i < pages_from w P) ⊎ (pages_from w P ≤ i) → get_or (mapped w m t) i 0 ≡ get_or (paint w P I (mapped w m s)) i 0
      go i (inl h) = mapped-records w m t i h ∙ sym (paint-alike w P I i (record { lengths = length-mapped w m s; byte = mapped-records w m s i h })).byte
      go i (inr h) =
          mapped-alike w m t s (length-paint w P wide I s) i (λ f. byte_shown w P wide I s i h)
          ∙ sym (byte_shown w P wide I (mapped w m s) i h)

  module _ (s : List ℕ) (m n : State) (e : m.size ≡ n.size) where
    -- of a drawing under another the maps in its pages are left
    pub draw_over : draw w (draw w s m) n ≡ draw w (mapped w m s) n
    unfolding draw
    draw_over =
        ap (λ (P : ℕ). paint w n.size (state_image n) (mapped w n (paint w P (state_image m) (mapped w m s)))) e
        ∙ ap (paint w n.size (state_image n)) (mapped-paint n (state_image m) (mapped w m s))
        ∙ paint_over w n.size wide (state_image n) (state_image m) (mapped w n (mapped w m s))

    -- nothing is left where the other has a map wherever it had one
    pub draw-again : ((p j : ℕ) → map_has (n.page p) j ≡ false → map_has (m.page p) j ≡ false) → draw w (draw w s m) n ≡ draw w s n
    draw-again h = draw_over ∙ unfold draw in ap (paint w n.size (state_image n)) maps
      where
        apart : (i : ℕ) → in_map (pages_from w n.size) n i ≡ false → in_map (pages_from w m.size) m i ≡ false
        apart i = go (lt? i (pages_from w n.size))
          where
            go : (i < pages_from w n.size) ⊎ (pages_from w n.size ≤ i) → in_map (pages_from w n.size) n i ≡ false → in_map (pages_from w m.size) m i ≡ false
            go (inl l) f = map-before (pages_from w m.size) m i (omega arith)
            go (inr l) f =
                let p : ℕ = (i - pages_from w n.size) / 4096 in
                let j : ℕ = (i - pages_from w n.size) % 4096 in
                map_at (pages_from w m.size) m p j i (omega arith) (omega arith)
                ∙ h p j (sym (map_at (pages_from w n.size) n p j i (omega arith) (omega arith)) ∙ f)

        maps : mapped w n (mapped w m s) ≡ mapped w n s
        maps =
            ext_get_or 0 _ _ (length-mapped w n (mapped w m s) ∙ length-mapped w m s ∙ sym (length-mapped w n s))
            (λ i l. mapped-alike w n (mapped w m s) s (length-mapped w m s) i (λ f. mapped-kept w m s i (apart i f)))
