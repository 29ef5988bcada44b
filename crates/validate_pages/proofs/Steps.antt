-- What the code of the counters reads and decides.
use Rattle.std.proofs.Common.{◌≡◌, ℕ, zero, suc, ◌*◌, ◌<◌, ◌≤◌, ◌≢◌, List, sym, refl, ◌∙◌, subst, arith, le-ltb}
use lib.Count as Count
use Rattle.base.specs.Tests.{pick}
use Rattle.base.specs.Count.{count}
use Rattle.words.specs.Word.{Bytes}
use Rattle.maps.specs.Bitmap.{mark}
use Rattle.map_count.specs.Mirror.{map_bits}
use Rattle.map_count.proofs.Counts.{read_ones, of_64}
use Rattle.rules.specs.Fields.{map}
use Rattle.rules.specs.Bytes.{pages_in, map_base, image_of, fields_of}
use Rattle.records.specs.Layout.{map_place}
use Rattle.records.specs.declared.Links.{Links}
use Rattle.validate_slabs.proofs.Top.{map-inside}
use Rattle.validate_pages.specs.Mirror.{ones_at, add_at, class_added, kind_added, page_added}

pub ones_read : (w : ℕ) (s : List ℕ) (n p c k r : ℕ) → n ≡ pages_in w s → 8 * k ≡ map_base w n p c → r ≡ count (mark s (8 * k)) (map_bits c) → r ≡ ones_at w s p c
unfolding ones_at
ones_read w s n p c k r e d q = q ∙ rw (d, e)

-- of a map in the record
pub ones_recorded : (w : ℕ) (s : List ℕ) (n p c v : ℕ) → n ≡ pages_in w s → p < n → 3 ≤ c → Bytes s → v ≡ map (fields_of w s) p
    → (Count.ones v ≡ ones_at w s p c) × (Count.ones v ≤ 512)
unfolding map_base pick fields_of image_of
ones_recorded w s n p c v pages h l B e =
    let d : 8 * map_place w p ≡ map_base w n p c = rw (le-ltb c 3 l) in
    let i = map-inside w s n p c (map_place w p) pages h d in
    let o = of_64 _ _ _ l (read_ones s (map_place w p) v B (omega (arith, i)) e) in
    (ones_read w s n p c (map_place w p) _ pages d o.0, o.1)

-- the answers of the tests on a page's kind
module _ (w : ℕ) (s t t' : List ℕ) (p : ℕ) (l : Links) where
  pub added_inside : l.kind ≡ 0 → t' ≡ add_at t 9 1 → t' ≡ page_added w s t p l
  unfolding page_added
  added_inside k e = rw k e

  pub added_first : l.kind ≡ 1 → t' ≡ add_at t 9 4294967297 → t' ≡ page_added w s t p l
  unfolding page_added
  added_first k e = rw k e

  pub added_class : l.kind ≡ 2 → t' ≡ class_added t l.class (ones_at w s p l.class) l → t' ≡ page_added w s t p l
  unfolding page_added
  added_class k e =
      subst (λ (j : ℕ). t' ≡ kind_added j t (add_at t 9 1) (add_at t 9 4294967297) (class_added t l.class (ones_at w s p l.class) l)) (sym k) e

pub added_none : (w : ℕ) (s t : List ℕ) (p : ℕ) (l : Links) → l.kind ≢ 0 → l.kind ≢ 1 → l.kind ≢ 2 → t ≡ page_added w s t p l
unfolding page_added
added_none w s t p l a b d = go l.kind a b d
  where
    go : (k : ℕ) → k ≢ 0 → k ≢ 1 → k ≢ 2 → t ≡ kind_added k t (add_at t 9 1) (add_at t 9 4294967297) (class_added t l.class (ones_at w s p l.class) l)
    go zero a b d = absurd (a refl)
    go (suc zero) a b d = absurd (b refl)
    go (suc (suc zero)) a b d = absurd (d refl)
    go (suc (suc (suc k))) a b d = refl
