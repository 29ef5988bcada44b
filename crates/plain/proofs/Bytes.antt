-- Marks of chunks as bytes: one byte written, and a new page.
use mathlib.Core.Path.{◌≡◌, refl, sym, ◌∙◌, fun_ext}
use mathlib.Core.Logic.{◌⊎◌, inl, inr, ◌≢◌}
use mathlib.Core.Bool.{false, not}
use mathlib.Core.List.{List}
use Prim.Native.Nat.{ℕ, ◌+◌, ◌*◌, ◌/◌, ◌%◌, ◌≤◌, ◌<◌}
use native.Mathlib.Omega.{arith}
use lib.Dec.{eqb, leb}
use lib.ListN.{length, get_or}
use lib.Seq.{get_or-set_same, get_or-set_other}
use borrow.Author.Tests.{lt-ltb, le-ltb, le-leb, lt-leb, eq-eqb, ne_eqb}
use Rattle.base.specs.Tests.{pick}
use Rattle.base.specs.Functions.{upd}
use Rattle.base.proofs.Cases.{eq?, lt?}
use Rattle.base.proofs.Functions.{upd_same, upd_other}
use Rattle.model.specs.Classes.{chunks, own, new_marks}
use Rattle.model.proofs.Classes.{own-few, small-chunks, large-chunks}
use Rattle.plain.specs.Plain.{mark_of}
use Rattle.plain.specs.Chunks.{new_byte, new_bytes, with_byte}
use Rattle.plain.proofs.Loops.{get_d_remade}

pub chunks-most : (c : ℕ) → chunks c ≤ 512
chunks-most c = go (lt? c 3)
  where
    go : (c < 3) ⊎ (3 ≤ c) → chunks c ≤ 512
    go (inl h) = let (d, e, l) = small-chunks c h in omega arith
    go (inr h) = omega (arith, large-chunks c h)

mark_in : (b : List ℕ) (p c i : ℕ) → i < chunks c → mark_of b p c i ≡ not (eqb (get_or b (512 * p + i) 0) 0)
unfolding mark_of pick
mark_in b p c i h = rw (lt-ltb i (chunks c) h)

pub mark-past : (b : List ℕ) (p c i : ℕ) → chunks c ≤ i → mark_of b p c i ≡ false
unfolding mark_of pick
mark-past b p c i h = rw (le-ltb i (chunks c) h)

-- ---- one byte

module _ (b : List ℕ) (full : 6144 ≤ length b) (p : ℕ) (in-pool : p < 12) (i v : ℕ) where
  pub marked_one : (c : ℕ) → i < chunks c → mark_of (with_byte b p i v) p c ≡ upd (mark_of b p c) i (not (eqb v 0))
  unfolding with_byte
  marked_one c h = fun_ext (λ j. go j (lt? j (chunks c)) (eq? j i))
    where
      go : (j : ℕ) → (j < chunks c) ⊎ (chunks c ≤ j) → (j ≡ i) ⊎ (j ≢ i) → mark_of (with_byte b p i v) p c j ≡ upd (mark_of b p c) i (not (eqb v 0)) j
      go j (inl l) (inl e) =
          mark_in (with_byte b p i v) p c j l
          ∙ rw (e, get_or-set_same b (512 * p + i) v 0 (omega (arith, chunks-most c)), upd_same (mark_of b p c) i (not (eqb v 0)))
      go j (inl l) (inr d) =
          mark_in (with_byte b p i v) p c j l
          ∙ rw (get_or-set_other b (512 * p + i) (512 * p + j) v 0 (λ e. d (omega arith)), upd_other (mark_of b p c) i (not (eqb v 0)) j d, mark_in b p c j l)
      go j (inr l) (inl e) = absurd (omega arith)
      go j (inr l) (inr d) = mark-past (with_byte b p i v) p c j l ∙ sym (upd_other (mark_of b p c) i (not (eqb v 0)) j d ∙ mark-past b p c j l)

  pub marked_other : i < 512 → (q d : ℕ) → q ≢ p → mark_of (with_byte b p i v) q d ≡ mark_of b q d
  unfolding with_byte
  marked_other h q d n = fun_ext (λ j. go j (lt? j (chunks d)))
    where
      go : (j : ℕ) → (j < chunks d) ⊎ (chunks d ≤ j) → mark_of (with_byte b p i v) q d j ≡ mark_of b q d j
      go j (inl l) =
          mark_in (with_byte b p i v) q d j l
          ∙ rw (get_or-set_other b (512 * p + i) (512 * q + j) v 0 (λ e. n (omega (arith, chunks-most d))), mark_in b q d j l)
      go j (inr l) = mark-past (with_byte b p i v) q d j l ∙ sym (mark-past b q d j l)

-- ---- a new page

module _ (b : List ℕ) (full : 6144 ≤ length b) (p : ℕ) (in-pool : p < 12) (c : ℕ) (class : c ≤ 8) where
  new-at : (q j : ℕ) → q < 12 → j < 512 → get_or (new_bytes b p c) (512 * q + j) 0 ≡ pick (eqb q p) (pick (leb j (own c)) 1 0) (get_or b (512 * q + j) 0)
  unfolding new_bytes new_byte
  new-at q j l h =
      let d : (512 * q + j) / 512 ≡ q = omega arith in
      let m : (512 * q + j) % 512 ≡ j = omega arith in
      get_d_remade (new_byte p c) b (512 * q + j) 0 (omega arith) ∙ rw (d, m)

  pub new_marks_lem : mark_of (new_bytes b p c) p c ≡ new_marks c
  unfolding new_marks pick
  new_marks_lem = fun_ext (λ j. go j (lt? j (chunks c)) (lt? (own c) j))
    where
      go : (j : ℕ) → (j < chunks c) ⊎ (chunks c ≤ j) → (own c < j) ⊎ (j ≤ own c) → mark_of (new_bytes b p c) p c j ≡ new_marks c j
      go j (inl l) (inl o) = mark_in (new_bytes b p c) p c j l ∙ rw (new-at p j in-pool (omega (arith, chunks-most c)), eq-eqb p p refl, lt-leb j (own c) o)
      go j (inl l) (inr o) = mark_in (new_bytes b p c) p c j l ∙ rw (new-at p j in-pool (omega (arith, chunks-most c)), eq-eqb p p refl, le-leb j (own c) o)
      go j (inr l) z = mark-past (new_bytes b p c) p c j l ∙ rw (lt-leb j (own c) (omega (arith, own-few c class)))

  pub new_other : (q d : ℕ) → q < 12 → q ≢ p → mark_of (new_bytes b p c) q d ≡ mark_of b q d
  unfolding pick
  new_other q d l n = fun_ext (λ j. go j (lt? j (chunks d)))
    where
      go : (j : ℕ) → (j < chunks d) ⊎ (chunks d ≤ j) → mark_of (new_bytes b p c) q d j ≡ mark_of b q d j
      go j (inl h) = mark_in (new_bytes b p c) q d j h ∙ rw (new-at q j l (omega (arith, chunks-most d)), ne_eqb q p n, mark_in b q d j h)
      go j (inr h) = mark-past (new_bytes b p c) q d j h ∙ sym (mark-past b q d j h)
