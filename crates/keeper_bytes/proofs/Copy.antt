-- A record laid into a live block leaves header, records and maps, and is the model's copy.
use mathlib.Core.Path.{◌≡◌, sym, ap, ◌∙◌}
use mathlib.Core.Logic.{◌⊎◌, inl, inr}
use mathlib.Core.Bool.{Bool}
use mathlib.Core.List.{List, [], ◌∷◌}
use Prim.Native.Nat.{ℕ, suc, ◌+◌, ◌*◌, ◌-◌, ◌≤◌, ◌<◌}
use native.Mathlib.Omega.{arith}
use lib.ListN.{length, get_or}
use borrow.Author.Tests.{lt-ltb}
use Rattle.base.specs.Tests.{pick}
use Rattle.base.proofs.Cases.{Out, in?}
use Rattle.base.proofs.Functions.{upd-at}
use Rattle.words.specs.Word.{Bytes}
use Rattle.copying.proofs.Laws.{length-lay, lay-outside, lay-inside}
use Rattle.model.specs.Classes.{chunk, chunks, own}
use Rattle.model.specs.State.{slab}
use Rattle.model.specs.Live.{Block, offset, extent, Off, Live}
use Rattle.model.proofs.Classes.{bitmap_in_page, own-some}
use Rattle.model.proofs.Claim.{claims}
use Rattle.rules.specs.Fields.{kind, class, page_at}
use Rattle.rules.specs.Read.{read_fields}
use Rattle.rules.specs.Bytes.{pages_in, broken_rule, fields_of, read}
use Rattle.drawing.specs.Noise.{SameRecords}
use Rattle.drawing.specs.Claim.{Laws}
use Rattle.drawing.proofs.Laws.{claims as laws-of}
use Rattle.keeper_model.specs.Store.{copied}
use Rattle.keeper_model.proofs.Bytes.{copied_out, copied-inside}
use Rattle.keeper_bytes.specs.Requests.{pages_begin, record_laid}

-- ---- the model's copy

-- the bytes at one place decide what a copy leaves there
pub copied_at : (b c : ℕ → ℕ) (a : ℕ) (r : List ℕ) (j : ℕ) → b j ≡ c j → copied b a r j ≡ copied c a r j
unfolding copied
copied_at b c a [] j e = e
copied_at b c a (x ∷ r) j e = upd-at (copied b (suc a) r) (copied c (suc a) r) a x j (copied_at b c (suc a) r j e)

-- inside the copy nothing is left of them
pub copied_in : (b c : ℕ → ℕ) (a : ℕ) (r : List ℕ) (j : ℕ) → a ≤ j → j < a + length r → copied b a r j ≡ copied c a r j
copied_in b c a r j l u =
    let e : j ≡ a + (j - a) = omega arith in
    rw e (copied-inside b a r (j - a) (omega arith) ∙ sym (copied-inside c a r (j - a) (omega arith)))

-- a record laid over the slice, which has its pages from byte `from` on, is copied to them
pub laid_copied : (from : ℕ) (s : List ℕ) (off : ℕ) (r : List ℕ) → from + off + length r ≤ length s → (j : ℕ) →
    get_or (record_laid s (from + off) r) (from + j) 0 ≡ copied (λ k. get_or s (from + k) 0) off r j
laid_copied from s off r room j = go (in? off (length r) j)
  where
    go : ((off ≤ j) × (j < off + length r)) ⊎ Out off (length r) j → get_or (record_laid s (from + off) r) (from + j) 0 ≡ copied (λ k. get_or s (from + k) 0) off r j
    go (inl (a, b)) =
        let e : j ≡ off + (j - off) = omega arith in
        let f : from + (off + (j - off)) ≡ from + off + (j - off) = omega arith in
        let g : 0 + (j - off) ≡ j - off = omega arith in
        rw e (rw f (lay-inside (from + off) 0 r (length r) s (j - off) (omega arith) room ∙ ap (λ (k : ℕ). get_or r k 0) g) ∙ sym (copied-inside (λ k. get_or s (from + k) 0) off r (j - off) (omega arith)))
    go (inr o) = lay-outside (from + off) 0 r (length r) s (from + j) (moved o) ∙ sym (copied_out (λ k. get_or s (from + k) 0) off r j o)
      where
        moved : Out off (length r) j → Out (from + off) (length r) (from + j)
        moved (inl h) = inl (omega arith)
        moved (inr h) = inr (omega arith)

-- ---- into a live block

module _ (w : ℕ) (lo : 2 ≤ w) (hi : w ≤ 255) (s : List ℕ) (bs : Bytes s) (sound : broken_rule w s ≡ 0) where
  X : Laws w s
  X = laws-of w lo hi s bs

  size_is : (read w s).size ≡ pages_in w s
  size_is = (X.sound-fits sound).size

  -- blocks end before the slice does
  pub block_ends : (e : Block) → Live (read w s).page e → pages_begin w s + (offset e + extent e) ≤ length s
  block_ends e live = let l : offset e + extent e ≤ 4096 * (read w s).size = (claims.placing (read w s) (X.sound-fits sound).well).within-pages e live in omega (arith, size_is, (X.sound-fits sound).well.some-page)

  -- a class page is read as one
  pub slab-read : (p : ℕ) → p < pages_in w s → kind (fields_of w s) p ≡ 2 → (m : ℕ → Bool) × ((read w s).page p ≡ slab (class (fields_of w s) p) m)
  unfolding read read_fields page_at pick
  slab-read p l k = ((fields_of w s).mark p, rw (lt-ltb p (pages_in w s) l, k))

  -- the maps that lie in pages are off the block
  map-off : (e : Block) → Live (read w s).page e → (p : ℕ) → p < pages_in w s → kind (fields_of w s) p ≡ 2 → class (fields_of w s) p < 3 →
      (j : ℕ) → 8 * j < chunks (class (fields_of w s) p) → Out (offset e) (extent e) (4096 * p + j)
  map-off e live p l k c j u =
      let (m, h) = slab-read p l k in
      go (bitmap_in_page (class (fields_of w s) p) (omega arith) (own-some (class (fields_of w s) p) c))
      ((claims.placing (read w s) (X.sound-fits sound).well).off-maps e live p (class (fields_of w s) p) m h)
    where
      go : chunks (class (fields_of w s) p) ≤ 8 * (chunk (class (fields_of w s) p) * own (class (fields_of w s) p)) →
          Off e (4096 * p) (chunk (class (fields_of w s) p) * own (class (fields_of w s) p)) → Out (offset e) (extent e) (4096 * p + j)
      go f (inl h) = inr (omega arith)
      go f (inr h) = inl (omega arith)

  module _ (e : Block) (live : Live (read w s).page e) (r : List ℕ) (fits : length r ≤ extent e) where
    abbrev copy : List ℕ
    copy = record_laid s (pages_begin w s + offset e) r

    outside : (j : ℕ) → Out (offset e) (extent e) j → get_or s (pages_begin w s + j) 0 ≡ get_or copy (pages_begin w s + j) 0
    outside j (inl h) = sym (lay-outside (pages_begin w s + offset e) 0 r (length r) s (pages_begin w s + j) (inl (omega arith)))
    outside j (inr h) = sym (lay-outside (pages_begin w s + offset e) 0 r (length r) s (pages_begin w s + j) (inr (omega arith)))

    pub copy_same : SameRecords w s copy
    copy_same = record {
      lengths = sym (length-lay (pages_begin w s + offset e) 0 r (length r) s);
      records = λ i l. sym (lay-outside (pages_begin w s + offset e) 0 r (length r) s i (inl (omega arith)));
      maps = λ p l k c j u.
          let z : pages_begin w s + 4096 * p + j ≡ pages_begin w s + (4096 * p + j) = omega arith in
          rw z (outside (4096 * p + j) (map-off e live p l k c j u));
    }

    pub copy_sound : broken_rule w copy ≡ 0
    copy_sound = sym (X.noise_rule copy copy_same) ∙ sound

    pub copy_read : read w copy ≡ read w s
    copy_read = sym (X.noise_read copy copy_same sound)
