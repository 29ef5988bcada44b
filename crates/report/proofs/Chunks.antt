-- The blocks that begin on a page, from its record and its map.
use mathlib.Core.Path.{◌≡◌, refl, sym, ◌∙◌, ap, subst}
use mathlib.Core.Logic.{◌≢◌}
use mathlib.Core.Bool.{Bool, true, false, cond, ◌&&◌}
use mathlib.Core.List.{List, [], ◌∷◌}
use Prim.Native.Nat.{ℕ, zero, suc, ◌+◌, ◌*◌, ◌≤◌, ◌<◌}
use native.Mathlib.Numerals.{add-one}
use native.Mathlib.Omega.{arith}
use lib.Dec.{leb}
use borrow.Author.Tests.{lt-ltb, le-leb, lt-leb}
use Rattle.base.specs.Tests.{pick}
use Rattle.model.specs.Classes.{chunk, chunks, own}
use Rattle.model.specs.State.{Page}
use Rattle.model.specs.Live.{small, large, chunks_on, blocks_on, blocks_below, blocks}
use Rattle.maps.specs.Bitmap.{mark}
use Rattle.records.specs.Page.{links_at}
use Rattle.records.specs.declared.Links.{Links}
use Rattle.rules.specs.Fields.{page_of, page_at}
use Rattle.rules.specs.Read.{read_fields}
use Rattle.rules.specs.Bytes.{pages_in, map_base, mark_at, image_of, fields_of, read}
use Rattle.rules.proofs.Judged.{judged}
use Rattle.printing.specs.Text.{lines_of, Prints}
use Rattle.printing.proofs.Writing.{prints_none, prints_then, lines_append}
use Rattle.report_lines.specs.Lines.{block_line}
use Rattle.report.specs.Mirror.{Sound, marked_chunk}
use Rattle.report.proofs.Spans.{one_line}

-- ---- one chunk

module _ (k : ℕ) (t : Bool) (p c i : ℕ) where
  pub own-chunk : i < k → marked_chunk k t p c i ≡ []
  unfolding marked_chunk
  own-chunk h = rw (lt-leb k i h)

  pub taken-chunk : k ≤ i → t ≡ true → marked_chunk k t p c i ≡ small (4096 * p + chunk c * i) c ∷ []
  unfolding marked_chunk
  taken-chunk h e = rw (le-leb k i h, e)

  pub clear_chunk : k ≤ i → t ≡ false → marked_chunk k t p c i ≡ []
  unfolding marked_chunk
  clear_chunk h e = rw (le-leb k i h, e)

pub chunk-line : (p c i x a : ℕ) (u v : List ℕ) (n r : ℕ) → x ≡ chunk c * i → a ≡ 4096 * p + x → Prints u v n r (block_line (small a c)) →
    Prints u v n r (block_line (small (4096 * p + chunk c * i) c))
chunk-line p c i x a u v n r e d q = rw (← e, ← d) q

-- ---- chunk by chunk

module _ (s : List ℕ) (p c : ℕ) where
  abbrev marks : ℕ → Bool
  marks = mark_at 2 s p c

  pub chunks-none : (u : List ℕ) (n : ℕ) → Prints u u n n (lines_of block_line (chunks_on c p marks 0))
  unfolding chunks_on
  chunks-none u n = prints_none u n

  mark-is : (pages base i : ℕ) (t : Bool) → pages ≡ pages_in 2 s → base ≡ map_base 2 pages p c → i < chunks c → t ≡ mark s base i → t ≡ mark_at 2 s p c i
  unfolding mark_at pick
  mark-is pages base i t e d h f = rw (lt-ltb i (chunks c) h, ← e, ← d) f

  pub chunks_more : (k pages base i : ℕ) (t : Bool) (u v x : List ℕ) (n a r : ℕ) →
      k ≡ own c → pages ≡ pages_in 2 s → base ≡ map_base 2 pages p c → i < chunks c → t ≡ mark s base i →
      Prints u v n a (lines_of block_line (chunks_on c p marks i)) → Prints v x a r (lines_of block_line (marked_chunk k t p c i)) →
      Prints u x n r (lines_of block_line (chunks_on c p marks (i + 1)))
  unfolding chunks_on marked_chunk
  chunks_more k pages base i t u v x n a r o e d h f y z =
      rw (
        add-one i,
        lines_append block_line (chunks_on c p marks i) (cond (leb (own c) i && marks i) (small (4096 * p + chunk c * i) c ∷ []) []),
        ← o,
        ← mark-is pages base i t e d h f,
      ) (prints_then u v x n a r _ _ y z)

  pub chunks-all : (end i : ℕ) (u v : List ℕ) (n r : ℕ) → end ≡ chunks c → i ≤ end → end ≤ i → Prints u v n r (lines_of block_line (chunks_on c p marks i)) →
      Prints u v n r (lines_of block_line (chunks_on c p marks (chunks c)))
  chunks-all end i u v n r e h l q = let z : i ≡ chunks c = omega (arith, e) in rw (← z) q

-- ---- one page

module _ (k p c len : ℕ) (m : ℕ → Bool) where
  class_page_lem : k ≡ 2 → blocks_on (page_of k c len m) p ≡ chunks_on c p m (chunks c)
  class_page_lem e = ap (λ (x : ℕ). blocks_on (page_of x c len m) p) e

  taken-page : k ≡ 3 → blocks_on (page_of k c len m) p ≡ large (4096 * p) len ∷ []
  taken-page e = ap (λ (x : ℕ). blocks_on (page_of x c len m) p) e

pub other_page : (k p c len : ℕ) (m : ℕ → Bool) → k ≢ 2 → k ≢ 3 → blocks_on (page_of k c len m) p ≡ []
other_page zero p c len m d e = refl
other_page (suc zero) p c len m d e = refl
other_page (suc (suc zero)) p c len m d e = absurd (d refl)
other_page (suc (suc (suc zero))) p c len m d e = absurd (e refl)
other_page (suc (suc (suc (suc zero)))) p c len m d e = refl
other_page (suc (suc (suc (suc (suc k))))) p c len m d e = refl

module _ (k p c len : ℕ) (m : ℕ → Bool) (u v : List ℕ) (n r : ℕ) where
  pub class-lines : k ≡ 2 → Prints u v n r (lines_of block_line (chunks_on c p m (chunks c))) → Prints u v n r (lines_of block_line (blocks_on (page_of k c len m) p))
  class-lines e q = rw (class_page_lem k p c len m e) q

  pub taken-lines : (x : ℕ) → k ≡ 3 → x ≡ 4096 * p + 0 → Prints u v n r (block_line (large x len)) → Prints u v n r (lines_of block_line (blocks_on (page_of k c len m) p))
  taken-lines x e d q =
      let z : x ≡ 4096 * p = omega (arith, d) in
      one_line block_line (large (4096 * p) len) _ u v n r (taken-page k p c len m e) (rw (← z) q)

module _ (s : List ℕ) (n : ℕ) (S : Sound s n) (p : ℕ) (h : p < n) where
  inside : p < pages_in 2 s
  inside = omega (arith, h, S.pages)

  pub class-small : (l : Links) → l ≡ links_at 2 s p → l.kind ≡ 2 → l.class ≤ 8
  unfolding fields_of image_of
  class-small l e k =
      rw e (((judged 2 s).sound.0 S.rules).1.shape.kind2 p inside (sym (ap (λ (x : Links). x.kind) e) ∙ k)).in_range

  pub page_does : (l : Links) (u v : List ℕ) (k r : ℕ) → l ≡ links_at 2 s p →
      Prints u v k r (lines_of block_line (blocks_on (page_of l.kind l.class l.run (mark_at 2 s p l.class)) p)) →
      Prints u v k r (lines_of block_line (blocks_on ((read 2 s).page p) p))
  unfolding read read_fields page_at fields_of image_of pick
  page_does l u v k r e q = rw (lt-ltb p (pages_in 2 s) inside) (rw e at q)

-- ---- page by page

pub blocks-none : (f : ℕ → Page) (u : List ℕ) (n : ℕ) → Prints u u n n (lines_of block_line (blocks_below f 0))
unfolding blocks_below
blocks-none f u n = prints_none u n

pub blocks_more : (f : ℕ → Page) (p : ℕ) (s t u : List ℕ) (n a r : ℕ) → Prints s t n a (lines_of block_line (blocks_below f p)) → Prints t u a r (lines_of block_line (blocks_on (f p) p)) →
    Prints s u n r (lines_of block_line (blocks_below f (p + 1)))
unfolding blocks_below
blocks_more f p s t u n a r x y =
    rw (add-one p, lines_append block_line (blocks_below f p) (blocks_on (f p) p)) (prints_then s t u n a r _ _ x y)

pub blocks-all : (s : List ℕ) (k p : ℕ) (u v : List ℕ) (n r : ℕ) → k ≡ pages_in 2 s → p ≤ k → k ≤ p → Prints u v n r (lines_of block_line (blocks_below (read 2 s).page p)) →
    Prints u v n r (lines_of block_line (blocks (read 2 s)))
unfolding blocks read read_fields
blocks-all s k p u v n r e h l q =
    let z : p ≡ pages_in 2 s = omega (arith, e) in
    subst (λ (x : ℕ). Prints u v n r (lines_of block_line (blocks_below (read 2 s).page x))) z q
