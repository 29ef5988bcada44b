-- A page on a class list, told by its record and the words of its map.
use mathlib.Core.Path.{◌≡◌, refl, sym, ap, ◌∙◌}
use mathlib.Core.Logic.{◌⊎◌, inl, inr, ◌≢◌}
use mathlib.Core.Bool.{Bool, true, false, ◌&&◌, not}
use mathlib.Core.List.{List}
use Prim.Native.Nat.{ℕ, zero, suc, ◌+◌, ◌-◌, ◌*◌, ◌/◌, ◌≤◌, ◌<◌}
use native.Mathlib.Omega.{arith}
use lib.Dec.{eqb, ltb}
use borrow.Author.Tests.{le-ltb, eq-eqb, ne_eqb}
use Rattle.base.specs.Tests.{pick}
use Rattle.base.proofs.Cases.{eq?}
use Rattle.words.specs.Word.{Bytes}
use Rattle.maps.specs.Bitmap.{mark}
use Rattle.model.specs.Classes.{chunks, has_clear}
use Rattle.model.specs.State.{is_open}
use Rattle.map_occupancy.specs.Mirror.{is_full}
use Rattle.map_occupancy.proofs.Words.{bits_most}
use Rattle.map_occupancy.proofs.Told.{full_is}
use Rattle.records.specs.Layout.{map_place, pages_from}
use Rattle.rules.specs.Fields.{Fields, kind, class, page_at}
use Rattle.rules.specs.Read.{is_head, open_at}
use Rattle.rules.specs.Rules.{shape_at, shape}
use Rattle.rules.specs.Bytes.{pages_in, map_base, mark_at, image_of, fields_of}
use Rattle.validate_slabs.proofs.Top.{map-inside}
use Rattle.base.proofs.AllBelow.{all-at}
use Rattle.validate_pages.proofs.Shares.{page-is, map-marks}
use Rattle.validate_pages.proofs.Pass.{Slab, kind_of_lem}
use Rattle.validate_walk.specs.Mirror.{belongs}

module _ (w : ℕ) (s : List ℕ) (n p : ℕ) (B : Bytes s) (pages : n ≡ pages_in w s) (ok : shape (fields_of w s) n ≡ true) (h : p < n) where
  abbrev v : Fields
  v = fields_of w s

  at : shape_at v n p ≡ true
  unfolding shape
  at = all-at (shape_at v n) n ok p h

  module _ (S : Slab w s p) where
    abbrev c : ℕ
    c = class v p

    place : 8 * (map_base w n p c / 8) ≡ map_base w n p c
    unfolding map_base pick
    place = go (ltb c 3)
      where
        go : (b : Bool) → 8 * (pick b (pages_from w n + 4096 * p) (8 * map_place w p) / 8) ≡ pick b (pages_from w n + 4096 * p) (8 * map_place w p)
        go true = omega arith
        go false = omega arith

    full-told : is_full s (map_base w n p c / 8) c ≡ not (has_clear c (v.mark p))
    unfolding fields_of image_of
    full-told =
        full_is s B (map_base w n p c / 8) c (omega (arith, map-inside w s n p c (map_base w n p c / 8) pages h place, bits_most c)) (mark_at w s p c)
        (λ i l. ap (λ (x : ℕ). mark s x i) (place ∙ ap (λ (q : ℕ). map_base w q p c) pages) ∙ map-marks w s p c B (rw (← pages) h) S.fits i l) (λ b l. past b l)
      where
        past : (b : ℕ) → chunks c ≤ b → mark_at w s p c b ≡ false
        past b l = unfold mark_at pick in rw (le-ltb b (chunks c) l)

  module _ (d : ℕ) where
    abbrev test : Bool
    test = pick (pick (eqb (kind v p) 2) (eqb (class v p) d) false) (not (is_full s (map_base w n p d / 8) d)) false

    open_told : open_at v n d p ≡ test
    unfolding pick open_at is_open
    open_told = go (kind v p) refl
      where
        class-told : Slab w s p → (class v p ≡ d) ⊎ (class v p ≢ d) → eqb (class v p) d && has_clear d (v.mark p) ≡ pick (pick true (eqb (class v p) d) false) (not (is_full s (map_base w n p d / 8) d)) false
        class-told S (inl e) = rw (← e, eq-eqb (class v p) (class v p) refl, full-told S) (twice (has_clear (class v p) (v.mark p)))
          where
            twice : (b : Bool) → b ≡ not (not b)
            twice true = refl
            twice false = refl
        class-told S (inr e) = rw (ne_eqb (class v p) d e)

        go : (k : ℕ) → kind v p ≡ k → is_open d (page_at v n p) ≡ test
        go zero a = rw (page-is v n p h 0 a, a)
        go (suc zero) a = rw (page-is v n p h 1 a, a)
        go (suc (suc zero)) a = rw (page-is v n p h 2 a, a) (class-told ((kind_of_lem w s n p 2 at a).1 refl) (eq? (class v p) d))
        go (suc (suc (suc zero))) a = rw (page-is v n p h 3 a, a)
        go (suc (suc (suc (suc zero)))) a = rw (page-is v n p h 4 a, a)
        go (suc (suc (suc (suc (suc k))))) a = absurd (omega (arith, (kind_of_lem w s n p (suc (suc (suc (suc (suc k))))) at a).0))

    pub open_found : (r : Bool) → r ≡ pick (pick (eqb (kind v p) 2) (eqb (class v p) d) false) (not (is_full s (map_base w n p d / 8) d)) false → r ≡ open_at v n d p
    open_found r e = e ∙ sym open_told

pub open_past : (v : Fields) (n c p : ℕ) → n ≤ p → false ≡ open_at v n c p
unfolding open_at page_at is_open pick
open_past v n c p h = rw (le-ltb p n h)

module _ (v : Fields) (n list p : ℕ) (r : Bool) where
  pub run_on : list ≡ 0 → r ≡ is_head v n p → r ≡ belongs v n list p
  unfolding belongs pick
  run_on h e = rw h e

  pub class_on : list ≢ 0 → r ≡ open_at v n (list - 1) p → r ≡ belongs v n list p
  unfolding belongs pick
  class_on h e = rw (ne_eqb list 0 h) e
