-- What each store does to a painted image, and what a painted image shows.
use mathlib.Core.Path.{◌≡◌, sym, ap, ◌∙◌}
use mathlib.Core.Logic.{◌⊎◌, inl, inr, ◌≢◌}
use mathlib.Core.List.{List}
use Prim.Native.Nat.{ℕ, ◌+◌, ◌*◌, ◌/◌, ◌≤◌, ◌<◌}
use native.Mathlib.Omega.{arith}
use lib.ListN.{length, get_or, set}
use Rattle.base.specs.Functions.{upd}
use Rattle.base.proofs.Cases.{eq?}
use Rattle.base.proofs.Functions.{upd_same, upd_other}
use Rattle.words.specs.Word.{word, set_word}
use Rattle.words.proofs.Laws.{word-set_same, length-set_word, set_word-outside}
use Rattle.words.proofs.Stores.{set_word_same, set-set_word}
use Rattle.records.specs.Layout.{counts_place, tally_place, map_place, links_place, pages_from}
use Rattle.records.specs.declared.ClassRecord.{ClassRecord}
use Rattle.records.specs.declared.Links.{Links}
use Rattle.records.specs.Header.{pack_header, unpack_header, header_at, with_header}
use Rattle.records.specs.Fits.{HeaderFits, ClassFits, LinksFit}
use Rattle.records.specs.Class.{pack_counts, pack_tally, class_at, with_class}
use Rattle.records.specs.Page.{pack_links, unpack_links, links_at, with_links}
use Rattle.records.proofs.Laws.{unpack_pack_header, unpack_pack_class, unpack_pack_links}
use Rattle.image.specs.Image.{Image, header_of, write_at, paint, Same, set_links}
use Rattle.image.specs.Update.{set_free, set_first_run, set_class, set_map}
use Rattle.image.proofs.Places.{class-apart, counts-tally, class-below}
use Rattle.image.proofs.Write.{length-write, write_ext, byte_past, byte_kept, set_past, word-past, set-write, word_write}

-- a function of one changed place
over : {A : Type 0} (g : A → ℕ) (f : ℕ → A) (p : ℕ) (x : A) (q : ℕ) → upd (λ j. g (f j)) p (g x) q ≡ g (upd f p x q)
over g f p x q = go (eq? q p)
  where
    go : (q ≡ p) ⊎ (q ≢ p) → upd (λ j. g (f j)) p (g x) q ≡ g (upd f p x q)
    go (inl e) = rw (e, upd_same (λ j. g (f j)) p (g x), upd_same f p x)
    go (inr e) = rw (upd_other (λ j. g (f j)) p (g x) q e, upd_other f p x q e)

module _ (w P : ℕ) where
  -- ---- the four layers of `paint`, the header first
  abbrev on_header : Image → List ℕ → List ℕ
  on_header I s = set_word s 0 (pack_header (header_of w P I.free_pages I.first_run))

  abbrev on_counts : Image → List ℕ → List ℕ
  on_counts I s = write_at (counts_place w) 9 (λ c. pack_counts (I.class c)) s

  abbrev on_tally : Image → List ℕ → List ℕ
  on_tally I s = write_at (tally_place w) 9 (λ c. pack_tally (I.class c)) s

  abbrev on_map : Image → List ℕ → List ℕ
  on_map I s = write_at (map_place w) P I.map s

  abbrev on_links : Image → List ℕ → List ℕ
  on_links I s = write_at (links_place w) P (λ p. pack_links (I.links p)) s

  pub paint_ext : (I J : Image) (s : List ℕ) → Same P I J → paint w P I s ≡ paint w P J s
  unfolding paint
  paint_ext I J s e =
      let h : on_header I s ≡ on_header J s = rw (e.free_pages, e.first_run) in
      let c : on_counts I (on_header I s) ≡ on_counts J (on_header J s) =
      rw h (write_ext (counts_place w) 9 (λ d. pack_counts (I.class d)) (λ d. pack_counts (J.class d)) (on_header J s) (λ d l. ap pack_counts (e.class d l))) in
      let t : on_tally I (on_counts I (on_header I s)) ≡ on_tally J (on_counts J (on_header J s)) =
      rw c (write_ext (tally_place w) 9 (λ d. pack_tally (I.class d)) (λ d. pack_tally (J.class d)) (on_counts J (on_header J s)) (λ d l. ap pack_tally (e.class d l))) in
      let m : on_map I (on_tally I (on_counts I (on_header I s))) ≡ on_map J (on_tally J (on_counts J (on_header J s))) =
      rw t (write_ext (map_place w) P I.map J.map (on_tally J (on_counts J (on_header J s))) e.map) in
      rw m (write_ext (links_place w) P (λ p. pack_links (I.links p)) (λ p. pack_links (J.links p)) (on_map J (on_tally J (on_counts J (on_header J s)))) (λ p l. ap pack_links (e.links p l)))

  module _ (wide : 2 ≤ w) (I : Image) (s : List ℕ) where
    pub length-paint : length (paint w P I s) ≡ length s
    unfolding paint
    length-paint =
        length-write (links_place w) P _ _ ∙ length-write (map_place w) P _ _ ∙ length-write (tally_place w) 9 _ _
        ∙ length-write (counts_place w) 9 _ _ ∙ length-set_word s _ _

    -- ---- stores

    pub links-paint : (p : ℕ) (l : Links) → p < P → with_links w (paint w P I s) p l ≡ paint w P (set_links I p l) s
    unfolding paint with_links
    links-paint p l h =
        set-write (links_place w) (λ i j d. omega arith) P (λ q. pack_links (I.links q)) _ p (pack_links l) h
        ∙ write_ext (links_place w) P _ _ _ (λ q u. over pack_links I.links p l q)

    pub map-paint : (p v : ℕ) → p < P → set_word (paint w P I s) (map_place w p) v ≡ paint w P (set_map I p v) s
    unfolding paint
    map-paint p v h =
        set_past (links_place w) P _ _ (map_place w p) v (λ i l. omega arith)
        ∙ ap (on_links I) (set-write (map_place w) (λ i j d. omega arith) P I.map _ p v h)

    pub class-paint : (c : ℕ) (r : ClassRecord) → c < 9 → with_class w (paint w P I s) c r ≡ paint w P (set_class I c r) s
    unfolding paint with_class
    class-paint c r h =
        let below = class-below w wide c h in
        let counts : set_word (paint w P I s) (counts_place w c) (pack_counts r)
        ≡ on_links I (on_map I (on_tally I (on_counts (set_class I c r) (on_header I s)))) =
        set_past (links_place w) P _ _ (counts_place w c) _ (λ i l. omega arith)
        ∙ ap (on_links I)
        (set_past (map_place w) P _ _ (counts_place w c) _ (λ i l. omega arith)
        ∙ ap (on_map I)
        (set_past (tally_place w) 9 _ _ (counts_place w c) _ (λ i l e. counts-tally w wide c i (sym e))
        ∙ ap (on_tally I)
        (set-write (counts_place w) (λ i j d. omega (arith, class-apart w wide i j d)) 9 (λ d. pack_counts (I.class d)) _ c (pack_counts r) h
        ∙ write_ext (counts_place w) 9 _ _ _ (λ d u. over pack_counts I.class c r d)))) in
        rw counts
        (set_past (links_place w) P _ _ (tally_place w c) _ (λ i l. omega arith)
        ∙ ap (on_links I)
        (set_past (map_place w) P _ _ (tally_place w c) _ (λ i l. omega arith)
        ∙ ap (on_map I)
        (set-write (tally_place w) (λ i j d. omega (arith, class-apart w wide i j d)) 9 (λ d. pack_tally (I.class d)) _ c (pack_tally r) h
        ∙ write_ext (tally_place w) 9 _ _ _ (λ d u. over pack_tally I.class c r d))))

    pub header_paint : (n p : ℕ) → with_header (paint w P I s) (header_of w P n p) ≡ paint w P (set_first_run (set_free I n) p) s
    unfolding paint with_header
    header_paint n p =
        set_past (links_place w) P _ _ 0 _ (λ i l. omega arith)
        ∙ ap (on_links I)
        (set_past (map_place w) P _ _ 0 _ (λ i l. omega arith)
        ∙ ap (on_map I)
        (set_past (tally_place w) 9 _ _ 0 _ (λ i l. omega arith)
        ∙ ap (on_tally I)
        (set_past (counts_place w) 9 _ _ 0 _ (λ i l. omega arith)
        ∙ ap (on_counts I) (set_word_same s 0 _ _))))

    -- ---- bytes past the records

    pub byte_paint : (i v : ℕ) → pages_from w P ≤ i → set (paint w P I s) i v ≡ paint w P I (set s i v)
    unfolding paint
    byte_paint i v h =
        byte_past (links_place w) P _ _ i v (λ p l. omega arith)
        ∙ ap (on_links I)
        (byte_past (map_place w) P _ _ i v (λ p l. omega arith)
        ∙ ap (on_map I)
        (byte_past (tally_place w) 9 _ _ i v (λ c l. omega (arith, class-below w wide c l))
        ∙ ap (on_tally I)
        (byte_past (counts_place w) 9 _ _ i v (λ c l. omega (arith, class-below w wide c l))
        ∙ ap (on_counts I) (set-set_word s 0 _ i v (omega arith)))))

    pub byte_shown : (i : ℕ) → pages_from w P ≤ i → get_or (paint w P I s) i 0 ≡ get_or s i 0
    unfolding paint
    byte_shown i h =
        byte_kept (links_place w) P _ _ i (λ p l. omega arith) ∙ byte_kept (map_place w) P _ _ i (λ p l. omega arith)
        ∙ byte_kept (tally_place w) 9 _ _ i (λ c l. omega (arith, class-below w wide c l))
        ∙ byte_kept (counts_place w) 9 _ _ i (λ c l. omega (arith, class-below w wide c l))
        ∙ set_word-outside s 0 _ i (inr (omega arith))

    -- ---- what is shown, where the slice has room for the records
    module _ (room : 1 + 9 * w + 2 * P ≤ length s / 8) where
      pub links-shown : (p : ℕ) → p < P → LinksFit (I.links p) → links_at w (paint w P I s) p ≡ I.links p
      unfolding paint links_at
      links-shown p h F =
          ap unpack_links
          (word_write (links_place w) (λ i j d. omega arith) P (λ q. pack_links (I.links q)) _ p h
          (rw (length-write (map_place w), length-write (tally_place w), length-write (counts_place w), length-set_word) (omega arith)))
          ∙ unpack_pack_links (I.links p) F

      pub map-shown : (p : ℕ) → p < P → word (paint w P I s) (map_place w p) ≡ I.map p
      unfolding paint
      map-shown p h =
          word-past (links_place w) P _ _ (map_place w p) (λ i l. omega arith)
          ∙ word_write (map_place w) (λ i j d. omega arith) P I.map _ p h
          (rw (length-write (tally_place w), length-write (counts_place w), length-set_word) (omega arith))

      pub class-shown : (c : ℕ) → c < 9 → ClassFits (I.class c) → class_at w (paint w P I s) c ≡ I.class c
      unfolding paint class_at
      class-shown c h F =
          let below = class-below w wide c h in
          let counts : word (paint w P I s) (counts_place w c) ≡ pack_counts (I.class c) =
          word-past (links_place w) P _ _ (counts_place w c) (λ i l. omega arith)
          ∙ word-past (map_place w) P _ _ (counts_place w c) (λ i l. omega arith)
          ∙ word-past (tally_place w) 9 _ _ (counts_place w c) (λ i l e. counts-tally w wide c i (sym e))
          ∙ word_write (counts_place w) (λ i j d. omega (arith, class-apart w wide i j d)) 9 (λ d. pack_counts (I.class d)) _ c h
          (rw length-set_word (omega arith)) in
          let tally : word (paint w P I s) (tally_place w c) ≡ pack_tally (I.class c) =
          word-past (links_place w) P _ _ (tally_place w c) (λ i l. omega arith)
          ∙ word-past (map_place w) P _ _ (tally_place w c) (λ i l. omega arith)
          ∙ word_write (tally_place w) (λ i j d. omega (arith, class-apart w wide i j d)) 9 (λ d. pack_tally (I.class d)) _ c h
          (rw (length-write (counts_place w), length-set_word) (omega arith)) in
          rw (counts, tally) (unpack_pack_class (I.class c) F)

      pub header_shown : HeaderFits (header_of w P I.free_pages I.first_run) → header_at (paint w P I s) ≡ header_of w P I.free_pages I.first_run
      unfolding paint header_at
      header_shown F =
          ap unpack_header
          (word-past (links_place w) P _ _ 0 (λ i l. omega arith) ∙ word-past (map_place w) P _ _ 0 (λ i l. omega arith)
          ∙ word-past (tally_place w) 9 _ _ 0 (λ i l. omega arith) ∙ word-past (counts_place w) 9 _ _ 0 (λ i l. omega arith)
          ∙ word-set_same s 0 _ (omega arith))
          ∙ unpack_pack_header _ F
