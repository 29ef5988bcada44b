-- What bytes give, sound or not: marks and map fields that fit each other, tallies of 32 bits, maps in pages that are their own marks.
use mathlib.Core.Path.{◌≡◌, refl, sym, ap, ◌∙◌}
use mathlib.Core.Logic.{◌⊎◌, inl, inr}
use mathlib.Core.Bool.{Bool, true, false, false≢true}
use mathlib.Core.List.{List}
use Prim.Native.Nat.{ℕ, zero, suc, ◌+◌, ◌-◌, ◌*◌, ◌%◌, ◌^◌, ◌≤◌, ◌<◌}
use native.Mathlib.Omega.{arith}
use lib.Dec.{ltb}
use lib.ListN.{get_or}
use lib.Pow.{low}
use borrow.Author.Tests.{lt-ltb, le-ltb, ltb-true}
use Rattle.base.specs.Tests.{pick}
use Rattle.base.proofs.Cases.{lt?}
use Rattle.base.proofs.Tests.{both_true}
use Rattle.words.specs.Word.{Bytes, word}
use Rattle.records.specs.Layout.{counts_place, tally_place, map_place, pages_from}
use Rattle.records.specs.Class.{class_at}
use Rattle.records.specs.Page.{links_at}
use Rattle.records.proofs.Laws.{unpacked_class-fits}
use Rattle.model.specs.Classes.{chunks}
use Rattle.maps.specs.Bitmap.{mark, bits_of}
use Rattle.maps.proofs.Bits.{bits_ext, bits_small, bits_join, bits_injective, byte_is}
use Rattle.maps.proofs.Marks.{mark_at_lem}
use Rattle.maps.proofs.Words.{word-marks}
use Rattle.rules.specs.Fields.{kind, class, run, page_of, page_at}
use Rattle.rules.specs.Read.{read_fields}
use Rattle.rules.specs.Bytes.{pages_in, map_base, mark_at, image_of, fields_of, read}
use Rattle.rules.specs.Agree.{Bounds}
use Rattle.drawing.specs.Draw.{map_has, map_byte, mapped}
use Rattle.model.proofs.Classes.{small-chunks, large-chunks}
use Rattle.drawing.proofs.Mapped.{mapped-is}

-- ---- numbers put together from marks

no_bits : (k : ℕ) → bits_of (λ i. false) k ≡ 0
unfolding bits_of
no_bits zero = refl
no_bits (suc k) = let ih = no_bits k in omega arith

-- low bits that are 0 are clear marks
low_clear : (m : ℕ → Bool) (a d : ℕ) → bits_of m (a + d) % 2 ^ d ≡ 0 → (i : ℕ) → i < d → m (a + i) ≡ false
low_clear m a d e =
    bits_injective (λ i. m (a + i)) (λ i. false) d
    (sym (low (bits_of m a) d (bits_small (λ i. m (a + i)) d)) ∙ ap (λ (x : ℕ). x % 2 ^ d) (sym (bits_join m a d)) ∙ e ∙ sym (no_bits d))

-- ---- marks

module _ (w : ℕ) (s : List ℕ) where
  pub mark-past : (p c i : ℕ) → chunks c ≤ i → mark_at w s p c i ≡ false
  unfolding mark_at pick
  mark-past p c i h = rw (le-ltb i (chunks c) h)

  -- in the page
  pub mark_paged : (p c i : ℕ) → c < 3 → i < chunks c → mark_at w s p c i ≡ mark s (pages_from w (pages_in w s) + 4096 * p) i
  unfolding mark_at map_base pick
  mark_paged p c i a h = rw (lt-ltb i (chunks c) h, lt-ltb c 3 a)

  -- in the record
  pub mark_recorded : (p c i : ℕ) → 3 ≤ c → i < chunks c → mark_at w s p c i ≡ mark s (8 * map_place w p) i
  unfolding mark_at map_base pick
  mark_recorded p c i a h = rw (lt-ltb i (chunks c) h, le-ltb c 3 a)

  module _ (B : Bytes s) where
    -- a map field whose unused low bits are 0 is that of its marks
    map-marks : (p c : ℕ) → p < pages_in w s → 3 ≤ c → word s (map_place w p) % 2 ^ (64 - chunks c) ≡ 0 → word s (map_place w p) ≡ bits_of (mark_at w s p c) 64
    map-marks p c h a z =
        let few : chunks c ≤ 64 = large-chunks c a in
        let e : word s (map_place w p) ≡ bits_of (mark s (8 * map_place w p)) 64 = word-marks s B (map_place w p) (omega arith) in
        let d : chunks c + (64 - chunks c) ≡ 64 = omega arith in
        let clear : (i : ℕ) → i < 64 - chunks c → mark s (8 * map_place w p) (chunks c + i) ≡ false =
        low_clear (mark s (8 * map_place w p)) (chunks c) (64 - chunks c)
        (ap (λ (x : ℕ). bits_of (mark s (8 * map_place w p)) x % 2 ^ (64 - chunks c)) d ∙ ap (λ (x : ℕ). x % 2 ^ (64 - chunks c)) (sym e) ∙ z) in
        e ∙ bits_ext (mark s (8 * map_place w p)) (mark_at w s p c) 64 (λ i l. go i l clear (lt? i (chunks c)))
      where
        go : (i : ℕ) → i < 64 → ((j : ℕ) → j < 64 - chunks c → mark s (8 * map_place w p) (chunks c + j) ≡ false) → (i < chunks c) ⊎ (chunks c ≤ i)
            → mark s (8 * map_place w p) i ≡ mark_at w s p c i
        go i l clear (inl u) = sym (mark_recorded p c i a u)
        go i l clear (inr u) =
            let x : chunks c + (i - chunks c) ≡ i = omega arith in
            ap (mark s (8 * map_place w p)) (sym x) ∙ clear (i - chunks c) (omega arith) ∙ sym (mark-past p c i u)

    pub fields_bounds : Bounds (fields_of w s) (pages_in w s)
    unfolding fields_of image_of class_at
    fields_bounds = record {
      marks = λ p h k i l. mark-past p (links_at w s p).class i l;
      maps = λ p h k a b z. map-marks p (links_at w s p).class h a z;
      class = λ c h. unpacked_class-fits (word s (counts_place w c)) (word s (tally_place w c));
    }

    -- ---- maps in pages

    map_byte_lem : (p c j : ℕ) → c < 3 → 8 * j < chunks c → bits_of (λ i. mark_at w s p c (8 * j + i)) 8 ≡ get_or s (pages_from w (pages_in w s) + 4096 * p + j) 0
    map_byte_lem p c j a h =
        let (d, z, u) = small-chunks c a in
        sym (byte_is _ (λ i. mark_at w s p c (8 * j + i)) (B _)
        (λ i l. sym (mark_at_lem s (pages_from w (pages_in w s) + 4096 * p) j i l) ∙ sym (mark_paged p c (8 * j + i) a (omega arith))))

    -- to write them as they are read changes nothing
    pub mapped-read : mapped w (read w s) s ≡ s
    unfolding read read_fields
    mapped-read = sym (mapped-is w (read w s) s s refl (λ i f. refl) (λ p j l t. sym (page p j (lt? p (pages_in w s)) t)))
      where
        by_kind_lem : (p j k c r : ℕ) → map_has (page_of k c r (mark_at w s p c)) j ≡ true
            → map_byte (page_of k c r (mark_at w s p c)) j ≡ get_or s (pages_from w (pages_in w s) + 4096 * p + j) 0
        by_kind_lem p j zero c r t = absurd (false≢true t)
        by_kind_lem p j (suc zero) c r t = absurd (false≢true t)
        by_kind_lem p j (suc (suc zero)) c r t =
            let (a, b) = both_true (ltb c 3) (ltb (8 * j) (chunks c)) t in
            unfold map_byte in map_byte_lem p c j (ltb-true c 3 a) (ltb-true (8 * j) (chunks c) b)
        by_kind_lem p j (suc (suc (suc zero))) c r t = absurd (false≢true t)
        by_kind_lem p j (suc (suc (suc (suc zero)))) c r t = absurd (false≢true t)
        by_kind_lem p j (suc (suc (suc (suc (suc k))))) c r t = absurd (false≢true t)

        page : (p j : ℕ) → (p < pages_in w s) ⊎ (pages_in w s ≤ p) → map_has (page_at (fields_of w s) (pages_in w s) p) j ≡ true
            → map_byte (page_at (fields_of w s) (pages_in w s) p) j ≡ get_or s (pages_from w (pages_in w s) + 4096 * p + j) 0
        page p j (inl h) =
            unfold fields_of image_of page_at pick in
            rw (lt-ltb p (pages_in w s) h) (by_kind_lem p j (kind (fields_of w s) p) (class (fields_of w s) p) (run (fields_of w s) p))
        page p j (inr h) = unfold page_at pick in rw (le-ltb p (pages_in w s) h) (λ t. absurd (false≢true t))
