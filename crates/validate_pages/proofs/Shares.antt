-- What the code adds for a page that keeps rule 2 is what the page adds in the words of the rules.
use Rattle.std.proofs.Common.{◌≡◌, ℕ, zero, suc, ◌+◌, ◌-◌, ◌*◌, ◌%◌, ◌^◌, ◌<◌, ◌≤◌, Bool, true, false, not, ◌&&◌, eqb, ltb, leb, ◌≢◌, ◌⊎◌, List, sym, refl, ap, ◌∙◌, inl, inr, arith, pow_mono, le-ltb, lt-ltb, eq-eqb, ne_eqb, eqb-true, le-leb}
use lib.Count as Count
use lib.Pow.{low}
use borrow.Author.Tests.{lt-leb}
use Rattle.base.specs.Tests.{pick, all_below}
use Rattle.base.specs.Count.{bit, count}
use Rattle.base.proofs.Cases.{eq?, lt?}
use Rattle.words.specs.Word.{Bytes, word}
use Rattle.records.specs.Layout.{map_place, no_page}
use Rattle.maps.specs.Bitmap.{mark, bits_of}
use Rattle.maps.proofs.Bits.{bits_small, bits_join, bits_injective}
use Rattle.maps.proofs.Words.{word-marks}
use Rattle.model.specs.Classes.{chunks, own}
use Rattle.model.specs.State.{Page, idle, slab, taken, inside, edge, is_idle, is_open}
use Rattle.model.specs.View.{kind_of, is_class, used_on}
use Rattle.map_count.specs.Mirror.{map_bits}
use Rattle.map_count.proofs.Counts.{ones_bits, count-join}
use Rattle.map_count.proofs.Marked.{count_ext, count_none, clear_count, taken-count, used-count}
use Rattle.rules.specs.Fields.{Fields, kind, class, run, next, prev, page_of, page_at}
use Rattle.rules.specs.Read.{is_head, open_at}
use Rattle.rules.specs.Rules.{map_fits, full_alone, in_use}
use Rattle.rules.specs.Bytes.{pages_in, map_base, mark_at}
use Rattle.validate_pages.specs.Mirror.{class_share, free_share, fault_share, share, ones_at, class_weight, strays, class_fault}

-- ---- the set marks of a page whose map field fits its class

-- marks past the first a are clear where their bits are 0
tail_none : (m : ℕ → Bool) (a d : ℕ) → bits_of m (a + d) % 2 ^ d ≡ 0 → bits_of (λ i. m (a + i)) d ≡ 0
tail_none m a d e = sym (low (bits_of m a) d (bits_small (λ i. m (a + i)) d)) ∙ ap (λ (x : ℕ). x % 2 ^ d) (sym (bits_join m a d)) ∙ e

no_bits : (d : ℕ) → bits_of (λ i. false) d ≡ 0
unfolding bits_of
no_bits zero = refl
no_bits (suc d) = let z = no_bits d in omega arith

tail_clear : (m : ℕ → Bool) (a d : ℕ) → bits_of m (a + d) % 2 ^ d ≡ 0 → count m (a + d) ≡ count m a
unfolding Count.ones Count.ones_in
tail_clear m a d e =
    let y : count (λ i. m (a + i)) d ≡ 0 = sym (ones_bits (λ i. m (a + i)) d) ∙ ap Count.ones (tail_none m a d e) in
    let x = count-join m a d in
    omega arith

chunks_64 : (c : ℕ) → 3 ≤ c → chunks c ≤ 64
unfolding chunks
chunks_64 c h = let k : 9 - c ≤ 6 = omega arith in pow_mono k

module _ (w : ℕ) (s : List ℕ) (p c : ℕ) (B : Bytes s) (h : p < pages_in w s) where
  same_mark : (i : ℕ) → i < chunks c → mark s (map_base w (pages_in w s) p c) i ≡ mark_at w s p c i
  unfolding mark_at pick
  same_mark i l = rw (lt-ltb i (chunks c) l)

  same_count : count (mark s (map_base w (pages_in w s) p c)) (chunks c) ≡ count (mark_at w s p c) (chunks c)
  same_count = count_ext _ _ (chunks c) same_mark

  field_fits : 3 ≤ c → map_fits (word s (map_place w p)) c ≡ true → bits_of (mark s (map_base w (pages_in w s) p c)) 64 % 2 ^ (64 - chunks c) ≡ 0
  unfolding map_fits map_base pick
  field_fits l e =
      let f : eqb (word s (map_place w p) % 2 ^ (64 - chunks c)) 0 ≡ true = rw (le-ltb c 3 l) at e in
      rw (le-ltb c 3 l, ← word-marks s B (map_place w p) (omega arith)) (eqb-true (word s (map_place w p) % 2 ^ (64 - chunks c)) 0 f)

  -- every mark of the map, those past the chunks too
  pub map-marks : map_fits (word s (map_place w p)) c ≡ true → (i : ℕ) → i < map_bits c → mark s (map_base w (pages_in w s) p c) i ≡ mark_at w s p c i
  unfolding map_bits pick
  map-marks e i l = go (lt? i (chunks c)) (lt? c 3)
    where
      go : (i < chunks c) ⊎ (chunks c ≤ i) → (c < 3) ⊎ (3 ≤ c) → mark s (map_base w (pages_in w s) p c) i ≡ mark_at w s p c i
      go (inl h) k = same_mark i h
      go (inr h) (inl k) = let x : i < chunks c = rw (lt-ltb c 3 k) at l in absurd (omega arith)
      go (inr h) (inr k) =
          let x : i < 64 = rw (le-ltb c 3 k) at l in
          let z : chunks c + (64 - chunks c) ≡ 64 = omega (arith, chunks_64 c k) in
          let y : chunks c + (i - chunks c) ≡ i = omega arith in
          let f : bits_of (λ j. mark s (map_base w (pages_in w s) p c) (chunks c + j)) (64 - chunks c) ≡ 0 =
          tail_none (mark s (map_base w (pages_in w s) p c)) (chunks c) (64 - chunks c) (rw z (field_fits k e)) in
          let g = bits_injective (λ j. mark s (map_base w (pages_in w s) p c) (chunks c + j)) (λ j. false) (64 - chunks c) (f ∙ sym (no_bits (64 - chunks c))) (i - chunks c) (omega arith) in
          ap (mark s (map_base w (pages_in w s) p c)) (sym y) ∙ g ∙ sym (past h)
        where
          past : chunks c ≤ i → mark_at w s p c i ≡ false
          past h = unfold mark_at pick in rw (le-ltb i (chunks c) h)

  pub ones_marks : map_fits (word s (map_place w p)) c ≡ true → ones_at w s p c ≡ count (mark_at w s p c) (chunks c)
  unfolding ones_at map_bits pick
  ones_marks e = go (lt? c 3)
    where
      go : (c < 3) ⊎ (3 ≤ c) → count (mark s (map_base w (pages_in w s) p c)) (pick (ltb c 3) (chunks c) 64) ≡ count (mark_at w s p c) (chunks c)
      go (inl l) = rw (lt-ltb c 3 l) same_count
      go (inr l) =
          let z : chunks c + (64 - chunks c) ≡ 64 = omega (arith, chunks_64 c l) in
          rw (le-ltb c 3 l)
          (ap (count (mark s (map_base w (pages_in w s) p c))) (sym z)
          ∙ tail_clear (mark s (map_base w (pages_in w s) p c)) (chunks c) (64 - chunks c) (rw z (field_fits l e)) ∙ same_count)

-- ---- what a page is

and_false : (b : Bool) → b && false ≡ false
and_false true = refl
and_false false = refl

-- a page that is not of class j adds nothing to its counter
other_class : (j : ℕ) (x : Page) → is_class j (kind_of x) ≡ false → (used_on j x ≡ 0) × (is_open j x ≡ false)
unfolding is_open
other_class j idle e = (count_none _ (chunks j) (λ i l. and_false (leb (own j) i)), refl)
other_class j (slab c m) e = (rw e (count_none _ (chunks j) (λ i l. and_false (leb (own j) i))), rw e)
other_class j (taken n) e = (count_none _ (chunks j) (λ i l. and_false (leb (own j) i)), refl)
other_class j inside e = (count_none _ (chunks j) (λ i l. and_false (leb (own j) i)), refl)
other_class j edge e = (count_none _ (chunks j) (λ i l. and_false (leb (own j) i)), refl)

module _ (v : Fields) (n p : ℕ) (h : p < n) where
  pub page-is : (k : ℕ) → kind v p ≡ k → page_at v n p ≡ page_of k (class v p) (run v p) (v.mark p)
  unfolding page_at pick
  page-is k e = rw (lt-ltb p n h, e)

  head-is : (k : ℕ) → kind v p ≡ k → is_head v n p ≡ eqb k 1
  unfolding is_head pick
  head-is k e = rw (lt-ltb p n h, e)

  other_share : (j : ℕ) (x : Page) → page_at v n p ≡ x → is_class j (kind_of x) ≡ false → class_share v n j p ≡ 0
  unfolding class_share open_at
  other_share j x e f = let (a, b) = other_class j x f in rw (e, a, f, b)

  free_share_lem : (x : Page) → page_at v n p ≡ x → (k : ℕ) → kind v p ≡ k → free_share v n p ≡ bit (is_idle x) + 4294967296 * bit (eqb k 1)
  unfolding free_share
  free_share_lem x e k d = rw (e, head-is k d)

  -- a page that is of no class
  pub plain-share : (x : Page) → page_at v n p ≡ x → ((j : ℕ) → is_class j (kind_of x) ≡ false) → in_use x ≡ true → (k : ℕ) → kind v p ≡ k → eqb k 2 ≡ false
      → (j : ℕ) → share v n j p ≡ pick (eqb j 9) (bit (is_idle x) + 4294967296 * bit (eqb k 1)) 0
  unfolding share pick
  plain-share x e f u k d g j = go (lt? j 9) (eq? j 9)
    where
      fault : fault_share v n p ≡ 0
      fault = unfold fault_share full_alone in rw (e, u, d, g)

      go : (j < 9) ⊎ (9 ≤ j) → (j ≡ 9) ⊎ (j ≢ 9)
          → pick (ltb j 9) (class_share v n j p) (pick (eqb j 9) (free_share v n p) (fault_share v n p)) ≡ pick (eqb j 9) (bit (is_idle x) + 4294967296 * bit (eqb k 1)) 0
      go (inl l) q = rw (lt-ltb j 9 l, ne_eqb j 9 (λ z. omega arith)) (other_share j x e (f j))
      go (inr l) (inl z) = rw (le-ltb j 9 l, eq-eqb j 9 z) (free_share_lem x e k d)
      go (inr l) (inr z) = rw (le-ltb j 9 l, ne_eqb j 9 z) fault

  -- a page of class c, with the marks m, of which so many are set
  module _ (c : ℕ) (m : ℕ → Bool) (ones : ℕ) (d : kind v p ≡ 2) (g : class v p ≡ c) (e : page_at v n p ≡ slab c m) (in-range : c ≤ 8)
      (o : all_below m (own c) ≡ true) (set : ones ≡ count m (chunks c)) where
    open_is : open_at v n c p ≡ ltb ones (chunks c)
    unfolding open_at is_open
    open_is = rw (e, eq-eqb c c refl, set) (clear_count c m)

    class_share_lem : class_share v n c p ≡ class_weight c ones
    unfolding class_share class_weight
    class_share_lem =
        let u : used_on c (page_at v n p) ≡ ones - own c = rw (e, set) (used-count c m o) in
        let k : is_class c (kind_of (page_at v n p)) ≡ true = rw e (eq-eqb c c refl) in
        rw (u, k, open_is) (omega arith)

    use_is : not (in_use (page_at v n p)) ≡ leb ones (own c)
    use_is = rw (e, taken-count c m o, set) (go (lt? (own c) (count m (chunks c))))
      where
        go : (own c < count m (chunks c)) ⊎ (count m (chunks c) ≤ own c) → not (ltb (own c) (count m (chunks c))) ≡ leb (count m (chunks c)) (own c)
        go (inl l) = rw (lt-ltb (own c) (count m (chunks c)) l, lt-leb (count m (chunks c)) (own c) l)
        go (inr l) = rw (le-ltb (own c) (count m (chunks c)) l, le-leb (count m (chunks c)) (own c) l)

    stray_is : not (full_alone v n p) ≡ strays c ones (next v p) (prev v p)
    unfolding full_alone strays pick
    stray_is = rw (d, g, open_is) (go (lt? ones (chunks c)))
      where
        go : (ones < chunks c) ⊎ (chunks c ≤ ones) →
            not (pick (ltb ones (chunks c)) true (pick (eqb (next v p) no_page) (eqb (prev v p) no_page) false))
            ≡ pick (leb (chunks c) ones) (not (pick (eqb (next v p) no_page) (eqb (prev v p) no_page) false)) false
        go (inl l) = rw (lt-ltb ones (chunks c) l, lt-leb (chunks c) ones l)
        go (inr l) = rw (le-ltb ones (chunks c) l, le-leb (chunks c) ones l)

    pub slab-share : (j : ℕ) → j < 11 → share v n j p ≡ pick (eqb j c) (class_weight c ones) (pick (eqb j 10) (class_fault c ones (v.image.links p)) 0)
    unfolding share pick
    slab-share j l = go (eq? j c) (lt? j 9) (eq? j 9)
      where
        fault : fault_share v n p ≡ class_fault c ones (v.image.links p)
        fault = unfold fault_share class_fault in rw (use_is, stray_is)

        go : (j ≡ c) ⊎ (j ≢ c) → (j < 9) ⊎ (9 ≤ j) → (j ≡ 9) ⊎ (j ≢ 9)
            → pick (ltb j 9) (class_share v n j p) (pick (eqb j 9) (free_share v n p) (fault_share v n p))
            ≡ pick (eqb j c) (class_weight c ones) (pick (eqb j 10) (class_fault c ones (v.image.links p)) 0)
        go (inl a) b q = rw (a, lt-ltb c 9 (omega arith), eq-eqb c c refl) class_share_lem
        go (inr a) (inl b) q =
            rw (lt-ltb j 9 b, ne_eqb j c a, ne_eqb j 10 (λ z. omega arith)) (other_share j (slab c m) e (ne_eqb c j (λ z. a (sym z))))
        go (inr a) (inr b) (inl q) = rw (le-ltb j 9 b, ne_eqb j c a, eq-eqb j 9 q, ne_eqb j 10 (λ z. omega arith)) (free_share_lem (slab c m) e 2 d)
        go (inr a) (inr b) (inr q) =
            let z : j ≡ 10 = omega arith in
            rw (le-ltb j 9 b, ne_eqb j c a, ne_eqb j 9 q, eq-eqb j 10 z) fault
