-- A mark written, and a new map: painted bytes become those of the page with its new marks, wherever its map lies.
use mathlib.Core.Path.{◌≡◌, refl, sym, ap, ◌∙◌}
use mathlib.Core.Logic.{◌⊎◌, inl, inr, ⊎_elim, ◌≢◌}
use mathlib.Core.Bool.{Bool, true, false}
use mathlib.Core.List.{List}
use Prim.Native.Nat.{ℕ, ◌+◌, ◌-◌, ◌*◌, ◌/◌, ◌%◌, ◌≤◌, ◌<◌}
use native.Mathlib.Omega.{arith}
use lib.Dec.{ltb}
use lib.ListN.{length, get_or}
use lib.Seq.{ext_get_or}
use borrow.Author.Tests.{lt-ltb, le-ltb, le-leb, lt-leb, ltb-true}
use Rattle.base.specs.Tests.{pick}
use Rattle.base.specs.Functions.{upd}
use Rattle.base.proofs.Cases.{eq?, lt?, in?, Out, clash, never}
use Rattle.base.proofs.Functions.{upd_same, upd_other}
use Rattle.base.proofs.Tests.{both_true}
use Rattle.words.specs.Word.{Bytes}
use Rattle.records.specs.Layout.{map_place, pages_from}
use Rattle.model.specs.Classes.{chunks, own, new_marks}
use Rattle.model.specs.State.{Page, idle, slab, taken, inside, edge, State}
use Rattle.model.specs.WellFormed.{WellFormed}
use Rattle.model.proofs.Classes.{small-chunks, large-chunks}
use Rattle.model.proofs.Table.{in_table}
use Rattle.maps.specs.Bitmap.{mark, bits_of, with_mark}
use Rattle.maps.specs.Mirror.{map_bytes, new_map, splice, with_new_map}
use Rattle.maps.proofs.Bits.{bits_ext, bit_byte, byte_is}
use Rattle.maps.proofs.Marks.{mark_at_lem, mark_byte, length-with_mark, with_mark-outside, with_mark-small, mark_same, mark_other}
use Rattle.maps.proofs.Maps.{length-map_bytes, length-map, map-inside, map-outside}
use Rattle.maps.proofs.Splice.{length-splice, splice-outside, splice-inside}
use Rattle.maps.proofs.Words.{word-mark, set_word-map, with_mark-word}
use Rattle.image.specs.Image.{Image, paint}
use Rattle.image.specs.Update.{set_map}
use Rattle.image.proofs.Fits.{Fits}
use Rattle.image.proofs.Paint.{paint_ext, length-paint, map-paint, map-shown, byte_paint, byte_shown}
use Rattle.rules.specs.Bytes.{map_base}
use Rattle.rules.specs.Drawn.{map_of}
use Rattle.map_count.specs.Mirror.{map_bits}
use Rattle.classes.proofs.Numbers.{base_paged, base_recorded}
use Rattle.drawing.specs.Draw.{map_has, map_byte, in_map, mapped}
use Rattle.drawing.proofs.Mapped.{map-before, map_at, length-mapped, mapped-kept, mapped-keeps, mapped-map, mapped-is}
use Rattle.drawing.proofs.Over.{paint-alike}
use Rattle.drawing.proofs.Records.{paint-keeps}
use Rattle.chunk_laws.specs.Midway.{with_page}

-- ---- pages with a map in them

pub has-map : (x : Page) (j : ℕ) → map_has x j ≡ true → (c : ℕ) × (k : ℕ → Bool) × (x ≡ slab c k) × (c < 3) × (8 * j < chunks c)
has-map idle j e = absurd (never (cc))
has-map (slab c k) j e = let (a, b) = both_true (ltb c 3) (ltb (8 * j) (chunks c)) e in (c, k, refl, ltb-true _ _ a, ltb-true _ _ b)
has-map (taken n) j e = absurd (never (cc))
has-map inside j e = absurd (never (cc))
has-map edge j e = absurd (never (cc))

paged : (c : ℕ) (k : ℕ → Bool) (j : ℕ) → c < 3 → map_has (slab c k) j ≡ ltb (8 * j) (chunks c)
unfolding pick
paged c k j h = rw (lt-ltb c 3 h)

recorded : (c : ℕ) (k : ℕ → Bool) (j : ℕ) → 3 ≤ c → map_has (slab c k) j ≡ false
unfolding pick
recorded c k j h = rw (le-ltb c 3 h)

pub map_paged : (c : ℕ) (k : ℕ → Bool) → c < 3 → map_of (slab c k) ≡ 0
unfolding pick
map_paged c k h = rw (lt-ltb c 3 h)

pub map_recorded : (c : ℕ) (k : ℕ → Bool) → 3 ≤ c → map_of (slab c k) ≡ bits_of k 64
unfolding pick
map_recorded c k h = rw (le-ltb c 3 h)

pub map_byte_lem : (c : ℕ) (k : ℕ → Bool) (j : ℕ) → bits_of (λ i. k (8 * j + i)) 8 ≡ map_byte (slab c k) j
unfolding map_byte
map_byte_lem c k j = refl

-- a mark past the records
mark-past : (w P : ℕ) → 2 ≤ w → (I : Image) (S : List ℕ) (b i : ℕ) (v : Bool) → pages_from w P ≤ b → with_mark (paint w P I S) b i v ≡ paint w P I (with_mark S b i v)
unfolding with_mark
mark-past w P wide I S b i v h = rw (byte_shown w P wide I S (b + i / 8) (omega arith)) (byte_paint w P wide I S (b + i / 8) _ (omega arith))

-- and a part replaced there
splice-past : (w P : ℕ) → 2 ≤ w → (I : Image) (S ys : List ℕ) (b : ℕ) → pages_from w P ≤ b → b + length ys ≤ length S → splice (paint w P I S) b ys ≡ paint w P I (splice S b ys)
splice-past w P wide I S ys b h fits =
    ext_get_or 0 _ _ (length-splice (paint w P I S) ys b fits' ∙ length-paint w P wide I S ∙ sym (length-paint w P wide I (splice S b ys) ∙ length-splice S ys b fits))
    (λ i l. go i (in? b (length ys) i) (lt? i (pages_from w P)))
  where
    fits' : b + length ys ≤ length (paint w P I S)
    fits' = rw (length-paint w P wide I S) fits

    go : (i : ℕ) → ((b ≤ i) × (i < b + length ys)) ⊎ Out b (length ys) i → (i < pages_from w P) ⊎ (pages_from w P ≤ i)
        → get_or (splice (paint w P I S) b ys) i 0 ≡ get_or (paint w P I (splice S b ys)) i 0
    go i (inl (a, u)) z =
        let e : i ≡ b + (i - b) = omega arith in
        rw (e, splice-inside (paint w P I S) ys b fits' (i - b) (omega arith), byte_shown w P wide I (splice S b ys) (b + (i - b)) (omega arith), splice-inside S ys b fits (i - b) (omega arith))
    go i (inr o) (inl z) =
        splice-outside (paint w P I S) ys b fits' i o
        ∙ sym (paint-alike w P I i (record { lengths = length-splice S ys b fits; byte = splice-outside S ys b fits i o })).byte
    go i (inr o) (inr z) =
        splice-outside (paint w P I S) ys b fits' i o ∙ byte_shown w P wide I S i z
        ∙ sym (byte_shown w P wide I (splice S b ys) i z ∙ splice-outside S ys b fits i o)

-- the marks of a new page
new-mark : (c i : ℕ) → ltb i (own c + 1) ≡ new_marks c i
unfolding new_marks
new-mark c i = ⊎_elim (λ (h : i < own c + 1). lt-ltb i (own c + 1) h ∙ sym (le-leb i (own c) (omega arith)))
    (λ (h : own c + 1 ≤ i). le-ltb i (own c + 1) h ∙ sym (lt-leb i (own c) (omega arith))) (lt? i (own c + 1))

new_bits : (c a n : ℕ) → bits_of (λ i. ltb (a + i) (own c + 1)) n ≡ bits_of (λ i. new_marks c (a + i)) n
new_bits c a n = bits_ext _ _ n (λ i l. new-mark c (a + i))

in_pool : (s : List ℕ) (b n k : ℕ) → b + n ≤ length s → with_new_map s b n k ≡ splice s b (map_bytes (λ i. ltb i k) n)
unfolding with_new_map new_map pick
in_pool s b n k h = rw (le-leb (b + n) (length s) h)

module _ (w : ℕ) (s : List ℕ) (m : State) (W : WellFormed m) (room : 8 + 72 * w + 4112 * m.size ≤ length s) (p : ℕ) (below : p < m.size) where
  abbrev from : ℕ
  from = pages_from w m.size

  abbrev base : ℕ
  base = from + 4096 * p

  -- ---- one page changes: its map has d bytes, and had no more

  module _ (x : Page) (d : ℕ) (few : d ≤ 4096) (all : (j : ℕ) → j < d → map_has x j ≡ true) (none : (j : ℕ) → d ≤ j → map_has x j ≡ false)
      (old : (j : ℕ) → d ≤ j → map_has (m.page p) j ≡ false) where
    abbrev n : State
    n = with_page m p x

    here : n.page p ≡ x
    here = upd_same m.page p x

    there : (q : ℕ) → q ≢ p → n.page q ≡ m.page q
    there q e = upd_other m.page p x q e

    -- off the map a byte is in a map as before
    outside : (i : ℕ) → Out base d i → in_map from n i ≡ false → in_map from m i ≡ false
    outside i o f = go (lt? i from)
      where
        go : (i < from) ⊎ (from ≤ i) → in_map from m i ≡ false
        go (inl h) = map-before from m i h
        go (inr h) =
            let q : ℕ = (i - from) / 4096 in
            let j : ℕ = (i - from) % 4096 in
            page q j (omega arith) (omega arith) (eq? q p)
          where
            page : (q j : ℕ) → j < 4096 → i ≡ from + 4096 * q + j → (q ≡ p) ⊎ (q ≢ p) → in_map from m i ≡ false
            page q j l e (inl z) = map_at from m q j i l e ∙ rw z (old j (⊎_elim (λ u. omega arith) (λ u. omega arith) o))
            page q j l e (inr z) = map_at from m q j i l e ∙ ap (λ (y : Page). map_has y j) (sym (there q z)) ∙ sym (map_at from n q j i l e) ∙ f

    pub mapped-page : (t : List ℕ) → length t ≡ length s → ((i : ℕ) → Out base d i → get_or t i 0 ≡ get_or (mapped w m s) i 0)
        → ((j : ℕ) → j < d → get_or t (base + j) 0 ≡ map_byte x j) → t ≡ mapped w n s
    mapped-page t l out inner = mapped-is w n s t l (λ i f. kept i f (in? base d i)) (λ q j a e. maps q j a e (eq? q p))
      where
        kept : (i : ℕ) → in_map from n i ≡ false → ((base ≤ i) × (i < base + d)) ⊎ Out base d i → get_or t i 0 ≡ get_or s i 0
        kept i f (inl (a, b)) =
            absurd (clash (map_at from n p (i - base) i (omega arith) (omega arith) ∙ ap (λ (y : Page). map_has y (i - base)) here ∙ all (i - base) (omega arith)) f)
        kept i f (inr o) = out i o ∙ mapped-kept w m s i (outside i o f)

        maps : (q j : ℕ) → j < 4096 → map_has (n.page q) j ≡ true → (q ≡ p) ⊎ (q ≢ p) → get_or t (from + 4096 * q + j) 0 ≡ map_byte (n.page q) j
        maps q j a e (inl z) =
            let e' : map_has x j ≡ true = ap (λ (y : Page). map_has y j) (sym (ap n.page z ∙ here)) ∙ e in
            ap (λ (y : ℕ). get_or t (from + 4096 * y + j) 0) z ∙ inner j (short j e' (lt? j d)) ∙ ap (λ (y : Page). map_byte y j) (sym (ap n.page z ∙ here))
          where
            short : (j : ℕ) → map_has x j ≡ true → (j < d) ⊎ (d ≤ j) → j < d
            short j e (inl h) = h
            short j e (inr h) = absurd (clash e (none j h))
        maps q j a e (inr z) =
            let (c, k, y, b, u) = has-map (m.page q) j (ap (λ (v : Page). map_has v j) (sym (there q z)) ∙ e) in
            let l : q < m.size = in_table W.table q (λ v. never (cc)) in
            out (from + 4096 * q + j) (apart z (lt? q p))
            ∙ mapped-map w m s q c k y b j u (omega arith) ∙ map_byte_lem c k j ∙ sym (ap (λ (v : Page). map_byte v j) (there q z ∙ y))
          where
            apart : q ≢ p → (q < p) ⊎ (p ≤ q) → Out base d (from + 4096 * q + j)
            apart z (inl h) = inl (omega arith)
            apart z (inr h) = inr (omega arith)

  -- ---- a mark

  module _ (wide : 2 ≤ w) (narrow : w ≤ 255) (small : m.size ≤ 4096) (B : Bytes s) (I : Image) (F : Fits m.size I)
      (maps : (q : ℕ) → q < m.size → I.map q < 18446744073709551616) where
    abbrev P : ℕ
    P = m.size

    abbrev S : List ℕ
    S = mapped w m s

    records_room : 1 + 9 * w + 2 * P ≤ length S / 8
    records_room = rw (length-mapped w m s) (omega arith)

    painted : Bytes (paint w P I S)
    painted = paint-keeps w P I S narrow (omega arith) F maps (mapped-keeps w m s B)

    long : length (paint w P I S) ≡ length s
    long = length-paint w P wide I S ∙ length-mapped w m s

    -- to write the map field as it is changes nothing
    same_map : (v : ℕ) (T : List ℕ) → I.map p ≡ v → paint w P I T ≡ paint w P (set_map I p v) T
    same_map v T e = paint_ext w P I (set_map I p v) T (record {
      free_pages = refl;
      first_run = refl;
      class = λ c l. refl;
      map = λ q l. ⊎_elim (λ (z : q ≡ p). ap I.map z ∙ e ∙ sym (ap (upd I.map p v) z ∙ upd_same I.map p v)) (λ (z : q ≢ p). sym (upd_other I.map p v q z)) (eq? q p);
      links = λ q l. refl;
    })

    module _ (c : ℕ) (k : ℕ → Bool) (is : m.page p ≡ slab c k) (field : I.map p ≡ map_of (slab c k)) where
      in_page : c < 3 → (j t : ℕ) → 8 * j < chunks c → t < 8 → mark S base (8 * j + t) ≡ k (8 * j + t)
      in_page a j t h l =
          let (d, z, u) = small-chunks c a in
          mark_at_lem S base j t l ∙ rw (mapped-map w m s p c k is a j h (omega arith)) (bit_byte (λ i. k (8 * j + i)) t l)

      -- the marks that are shown
      pub marks-shown : (i : ℕ) → i < map_bits c → mark (paint w P I S) (map_base w P p c) i ≡ k i
      unfolding map_bits pick
      marks-shown i = go (lt? c 3)
        where
          go : (c < 3) ⊎ (3 ≤ c) → i < map_bits c → mark (paint w P I S) (map_base w P p c) i ≡ k i
          go (inl a) h =
              let h' : i < chunks c = rw (lt-ltb c 3 a) at h in
              let e : 8 * (i / 8) + i % 8 ≡ i = omega arith in
              let (d, z, u) = small-chunks c a in
              rw (base_paged w P p c a)
              (mark_byte (paint w P I S) S base base i (byte_shown w P wide I S (base + i / 8) (omega arith))
              ∙ ap (mark S base) (sym e) ∙ in_page a (i / 8) (i % 8) (omega arith) (omega arith) ∙ ap k e)
          go (inr a) h =
              let h' : i < 64 = rw (le-ltb c 3 a) at h in
              rw (base_recorded w P p c a)
              (word-mark (paint w P I S) painted (map_place w p) (omega (arith, long)) k
              (map-shown w P wide I S records_room p below ∙ field ∙ map_recorded c k a) i h')

      module _ (i : ℕ) (v : Bool) (in-range : i < chunks c) where
        abbrev k' : ℕ → Bool
        k' = upd k i v

        -- in the page
        moved : c < 3 → with_mark S base i v ≡ mapped w (with_page m p (slab c k')) s
        moved a =
            let (d, z, u) = small-chunks c a in
            mapped-page (slab c k') d (omega arith) (λ j l. paged c k' j a ∙ lt-ltb (8 * j) (chunks c) (omega arith))
            (λ j l. paged c k' j a ∙ le-ltb (8 * j) (chunks c) (omega arith))
            (λ j l. rw is (paged c k j a ∙ le-ltb (8 * j) (chunks c) (omega arith)))
            (with_mark S base i v) (length-with_mark S base i v ∙ length-mapped w m s)
            (λ x o. with_mark-outside S base i v x (⊎_elim (λ h. omega arith) (λ h. omega arith) o))
            (λ j l.
            byte_is _ (λ t. k' (8 * j + t)) (with_mark-small S base i v (base + j) (mapped-keeps w m s B (base + j)))
            (λ t r. sym (mark_at_lem (with_mark S base i v) base j t r) ∙ bits j t (omega arith) r (eq? (8 * j + t) i))
            ∙ map_byte_lem c k' j)
          where
            bits : (j t : ℕ) → 8 * j < chunks c → t < 8 → (8 * j + t ≡ i) ⊎ (8 * j + t ≢ i) → mark (with_mark S base i v) base (8 * j + t) ≡ k' (8 * j + t)
            bits j t h l (inl e) =
                let (d, z, u) = small-chunks c a in
                rw (e, upd_same k i v) (mark_same S base i v (omega (arith, length-mapped w m s)))
            bits j t h l (inr e) = mark_other S base i v (8 * j + t) e ∙ in_page a j t h l ∙ sym (upd_other k i v (8 * j + t) e)

        pub mark_drawn : with_mark (paint w P I S) (map_base w P p c) i v ≡ paint w P (set_map I p (map_of (slab c k'))) (mapped w (with_page m p (slab c k')) s)
        mark_drawn = go (lt? c 3)
          where
            go : (c < 3) ⊎ (3 ≤ c) → with_mark (paint w P I S) (map_base w P p c) i v ≡ paint w P (set_map I p (map_of (slab c k'))) (mapped w (with_page m p (slab c k')) s)
            go (inl a) =
                rw (base_paged w P p c a)
                (mark-past w P wide I S base i v (omega arith)
                ∙ ap (paint w P I) (moved a) ∙ same_map _ _ (field ∙ map_paged c k a ∙ sym (map_paged c k' a)))
            go (inr a) =
                rw (base_recorded w P p c a)
                (with_mark-word (paint w P I S) painted (map_place w p) (omega (arith, long)) k
                (map-shown w P wide I S records_room p below ∙ field ∙ map_recorded c k a) i v (omega (arith, large-chunks c a))
                ∙ map-paint w P wide I S p _ below ∙ ap (λ (x : ℕ). paint w P (set_map I p x) S) (sym (map_recorded c k' a))
                ∙ ap (paint w P (set_map I p (map_of (slab c k'))))
                (mapped-page (slab c k') 0 (omega arith) (λ j l. absurd (omega arith)) (λ j l. recorded c k' j a) (λ j l. rw is (recorded c k j a)) S
                (length-mapped w m s) (λ x o. refl) (λ j l. absurd (omega arith))))

    -- ---- a new map

    module _ (c : ℕ) (free : (j : ℕ) → map_has (m.page p) j ≡ false) (field : I.map p ≡ 0) where
      pub new_drawn : with_new_map (paint w P I S) (map_base w P p c) (map_bits c / 8) (own c + 1)
          ≡ paint w P (set_map I p (map_of (slab c (new_marks c)))) (mapped w (with_page m p (slab c (new_marks c))) s)
      new_drawn = go (lt? c 3)
        where
          go : (c < 3) ⊎ (3 ≤ c) → with_new_map (paint w P I S) (map_base w P p c) (map_bits c / 8) (own c + 1)
              ≡ paint w P (set_map I p (map_of (slab c (new_marks c)))) (mapped w (with_page m p (slab c (new_marks c))) s)
          go (inl a) =
              let (d, z, u) = small-chunks c a in
              let e : map_bits c / 8 ≡ d = unfold map_bits pick in (rw (lt-ltb c 3 a) (omega arith)) in
              let k : ℕ → Bool = λ i. ltb i (own c + 1) in
              let fits : base + d ≤ length S = rw (length-mapped w m s) (omega arith) in
              rw (e, base_paged w P p c a)
              (in_pool (paint w P I S) base d (own c + 1) (rw (length-paint w P wide I S) fits)
              ∙ splice-past w P wide I S (map_bytes k d) base (omega arith) (rw (length-map_bytes k d) fits)
              ∙ ap (paint w P I)
              (mapped-page (slab c (new_marks c)) d (omega arith) (λ j l. paged c (new_marks c) j a ∙ lt-ltb (8 * j) (chunks c) (omega arith))
              (λ j l. paged c (new_marks c) j a ∙ le-ltb (8 * j) (chunks c) (omega arith)) (λ j l. free j)
              (splice S base (map_bytes k d)) (length-map S base d fits k ∙ length-mapped w m s) (λ i o. map-outside S base d fits k i o)
              (λ j l. map-inside S base d fits k j l ∙ new_bits c (8 * j) 8 ∙ map_byte_lem c (new_marks c) j))
              ∙ same_map _ _ (field ∙ sym (map_paged c (new_marks c) a)))
          go (inr a) =
              let e : map_bits c / 8 ≡ 8 = unfold map_bits pick in (rw (le-ltb c 3 a)) in
              let k : ℕ → Bool = λ i. ltb i (own c + 1) in
              rw (e, base_recorded w P p c a)
              (in_pool (paint w P I S) (8 * map_place w p) 8 (own c + 1) (omega (arith, long))
              ∙ sym (set_word-map (paint w P I S) painted (map_place w p) (omega (arith, long)) k)
              ∙ map-paint w P wide I S p _ below ∙ ap (λ (x : ℕ). paint w P (set_map I p x) S) (bits_ext _ _ 64 (λ i l. new-mark c i) ∙ sym (map_recorded c (new_marks c) a))
              ∙ ap (paint w P (set_map I p (map_of (slab c (new_marks c)))))
              (mapped-page (slab c (new_marks c)) 0 (omega arith) (λ j l. absurd (omega arith)) (λ j l. recorded c (new_marks c) j a) (λ j l. free j) S
              (length-mapped w m s) (λ x o. refl) (λ j l. absurd (omega arith))))
