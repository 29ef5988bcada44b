-- Free on a plain state answers and leaves what the model's free does.
use mathlib.Core.Path.{◌≡◌, refl, ap, ◌∙◌}
use mathlib.Core.Logic.{◌⊎◌, inl, inr, ◌≢◌}
use mathlib.Core.Bool.{Bool, true, false}
use mathlib.Core.List.{List}
use Prim.Native.Nat.{ℕ, ◌+◌, ◌-◌, ◌*◌, ◌/◌, ◌%◌, ◌≤◌, ◌<◌}
use native.Mathlib.Omega.{arith}
use lib.Dec.{eqb}
use borrow.Author.Tests.{lt-ltb, le-ltb, ne_eqb}
use Rattle.base.specs.Tests.{pick}
use Rattle.base.specs.Functions.{upd}
use Rattle.base.proofs.Cases.{never, clash, lt?, eq?}
use Rattle.model.specs.Classes.{chunk, chunks, has_taken, starts_chunk}
use Rattle.model.specs.State.{idle, slab, taken, inside, edge}
use Rattle.model.specs.Calls.{freed, outside, not_taken, not_a_start, refuse, free_chunk, free_at, free}
use Rattle.model.specs.WellFormed.{WellFormed}
use Rattle.model.proofs.Table.{in_table, taken_ok}
use Rattle.plain.specs.Plain.{Plain, Shaped, entry_at, mark_of, page_of, page_at, read_plain}
use Rattle.plain.specs.Pages.{refused, granted}
use Rattle.plain.specs.Chunks.{with_byte, chunk_freed}
use Rattle.plain.specs.Engine.{free_answer, free_marked, free_chunk_at, free_chunk_bytes, free_run_at, free_kind, free_kind_bytes, free_in, free_in_bytes, plain_free, plain_free_bytes}
use Rattle.plain.proofs.Shown.{page_in, page-past}
use Rattle.plain.proofs.Pages.{pages_freed_lem}
use Rattle.plain.proofs.Bytes.{mark-past, marked_one}
use Rattle.plain.proofs.Marked.{ClassPage, class_page_lem}
use Rattle.plain.proofs.Returned.{chunk_back_lem, page_dropped_lem}
use Rattle.plain.proofs.Whole.{Meets, small}

-- a refusal by number n
refusal : (s : Plain) (b : List ℕ) (n : ℕ) → n ≢ 0 → Meets free_answer (refused s n) b (refuse (read_plain s b) n)
unfolding free_answer refused refuse pick
refusal s b n h = record { answers = rw (ne_eqb n 0 h); leaves = refl }

-- ---- a chunk

module _ (s : Plain) (b : List ℕ) (sh : Shaped s b) (wf : WellFormed (read_plain s b)) (p c q : ℕ) (page : ClassPage s b p c) where
  abbrev m : ℕ → Bool
  m = mark_of b p c

  abbrev i : ℕ
  i = q / chunk c

  in_page : m i ≡ true → i < chunks c
  in_page e = go (lt? i (chunks c))
    where
      go : (i < chunks c) ⊎ (chunks c ≤ i) → i < chunks c
      go (inl h) = h
      go (inr h) = absurd (clash e (mark-past b p c i h))

  free_chunk_lem : Meets free_answer (free_chunk_at s b p c q) (free_chunk_bytes b p c q) (free_at (read_plain s b) p q (slab c m))
  unfolding free_chunk_at free_chunk_bytes free_marked free_at pick
  free_chunk_lem = go (starts_chunk c q) refl (m i) refl (has_taken c (upd m i false)) refl
    where
      cleared : i < chunks c → mark_of (with_byte b p i 0) p c ≡ upd m i false
      cleared h = marked_one b sh.bytes p page.in_pool i 0 c h

      go : (x : Bool) → starts_chunk c q ≡ x → (y : Bool) → m i ≡ y → (z : Bool) → has_taken c (upd m i false) ≡ z
          → Meets free_answer (free_chunk_at s b p c q) (free_chunk_bytes b p c q) (free_at (read_plain s b) p q (slab c m))
      go false e y f z g = rw e (unfold not_a_start in refusal s b 7 (λ d. omega arith))
      go true e false f z g = rw (e, f) (unfold not_taken in refusal s b 6 (λ d. omega arith))
      go true e true f true g =
          rw (e, f, cleared (in_page f)) (unfold free_chunk in unfold chunk_freed in rw g (record { answers = unfold free_answer in unfold granted in refl; leaves = unfold granted in chunk_back_lem s b sh wf p c page i (in_page f) }))
      go true e true f false g =
          rw (e, f, cleared (in_page f)) (unfold free_chunk in unfold chunk_freed in rw g (record { answers = unfold free_answer in unfold granted in refl; leaves = unfold granted in page_dropped_lem s b sh wf p c page i (in_page f) }))

-- ---- a taken run

module _ (s : Plain) (b : List ℕ) (sh : Shaped s b) (wf : WellFormed (read_plain s b)) (p n q : ℕ) (is : page_at s b p ≡ taken n) where
  some : 1 ≤ n
  unfolding read_plain
  some = taken_ok wf.table is

  in_run : (j : ℕ) → p ≤ j → j < p + n → (page_at s b j ≡ taken n) ⊎ (page_at s b j ≡ inside)
  unfolding read_plain
  in_run j l u = go (eq? j p)
    where
      go : (j ≡ p) ⊎ (j ≢ p) → (page_at s b j ≡ taken n) ⊎ (page_at s b j ≡ inside)
      go (inl e) = inl (ap (page_at s b) e ∙ is)
      go (inr d) = inr (wf.table.inner p n j is (omega arith) u)

  not-edge : (j : ℕ) → p ≤ j → j < p + n → page_at s b j ≢ edge
  not-edge j l u e = go (in_run j l u)
    where
      go : (page_at s b j ≡ taken n) ⊎ (page_at s b j ≡ inside) → ⊥
      go (inl f) = never (cc)
      go (inr f) = never (cc)

  not_free : (j : ℕ) → p ≤ j → j < p + n → page_at s b j ≢ idle
  not_free j l u e = go (in_run j l u)
    where
      go : (page_at s b j ≡ taken n) ⊎ (page_at s b j ≡ inside) → ⊥
      go (inl f) = never (cc)
      go (inr f) = never (cc)

  not-class : (j c : ℕ) (m : ℕ → Bool) → p ≤ j → j < p + n → page_at s b j ≢ slab c m
  not-class j c m l u e = go (in_run j l u)
    where
      go : (page_at s b j ≡ taken n) ⊎ (page_at s b j ≡ inside) → ⊥
      go (inl f) = never (cc)
      go (inr f) = never (cc)

  ends : p + n ≤ 12
  unfolding read_plain
  ends =
      let l : 1 ≤ n = some in
      let h : p + n - 1 < 12 = in_table wf.table (p + n - 1) (not-edge (p + n - 1) (omega arith) (omega arith)) in
      omega arith

  free_run_lem : Meets free_answer (free_run_at s p n q) b (free_at (read_plain s b) p q (taken n))
  unfolding free_run_at free_at pick
  free_run_lem = go (eqb q 0) refl
    where
      go : (x : Bool) → eqb q 0 ≡ x → Meets free_answer (free_run_at s p n q) b (free_at (read_plain s b) p q (taken n))
      go true e =
          rw e (record {
            answers = unfold free_answer in unfold granted in unfold pick in ap freed (small (4096 * n) (omega (arith, ends)));
            leaves = unfold granted in pages_freed_lem s b sh wf p n some ends not_free not-class;
          })
      go false e = rw e (unfold not_a_start in refusal s b 7 (λ d. omega arith))

-- ---- free

module _ (s : Plain) (b : List ℕ) (sh : Shaped s b) (wf : WellFormed (read_plain s b)) (p q : ℕ) where
  free_in_lem : p < 12 → Meets free_answer (free_kind s b p q (entry_at s p).kind) (free_kind_bytes s b p q (entry_at s p).kind) (free_at (read_plain s b) p q (page_at s b p))
  unfolding free_kind free_kind_bytes pick
  free_in_lem h = go (eqb (entry_at s p).kind 0) refl (eqb (entry_at s p).kind 1) refl (eqb (entry_at s p).kind 2) refl
    where
      c : ℕ
      c = (entry_at s p).class

      shows : (x y z : Bool) → eqb (entry_at s p).kind 0 ≡ x → eqb (entry_at s p).kind 1 ≡ y → eqb (entry_at s p).kind 2 ≡ z
          → page_at s b p ≡ pick x idle (pick y (slab (entry_at s p).class (mark_of b p (entry_at s p).class)) (pick z (taken (entry_at s p).run) inside))
      shows x y z d e f = page_in s b p h ∙ (unfold page_of in rw (d, e, f))

      go : (x : Bool) → eqb (entry_at s p).kind 0 ≡ x → (y : Bool) → eqb (entry_at s p).kind 1 ≡ y → (z : Bool) → eqb (entry_at s p).kind 2 ≡ z
          → Meets free_answer (free_kind s b p q (entry_at s p).kind) (free_kind_bytes s b p q (entry_at s p).kind) (free_at (read_plain s b) p q (page_at s b p))
      go true d y e z f = rw (shows true y z d e f, d) (unfold free_at in unfold not_taken in refusal s b 6 (λ x. omega arith))
      go false d true e z f =
          rw (shows false true z d e f, d, e)
          (free_chunk_lem s b sh wf p (entry_at s p).class q (class_page_lem s b p (entry_at s p).class (mark_of b p (entry_at s p).class) (shows false true z d e f)).0)
      go false d false e true f = rw (shows false false true d e f, d, e, f) (free_run_lem s b sh wf p (entry_at s p).run q (shows false false true d e f))
      go false d false e false f = rw (shows false false false d e f, d, e, f) (unfold free_at in unfold not_a_start in refusal s b 7 (λ x. omega arith))

  free_at_lem : Meets free_answer (free_in s b p q) (free_in_bytes s b p q) (free_at (read_plain s b) p q (page_at s b p))
  unfolding free_in free_in_bytes pick
  free_at_lem = go (lt? p 12)
    where
      go : (p < 12) ⊎ (12 ≤ p) → Meets free_answer (free_in s b p q) (free_in_bytes s b p q) (free_at (read_plain s b) p q (page_at s b p))
      go (inl h) = rw (lt-ltb p 12 h) (free_in_lem h)
      go (inr h) = rw (le-ltb p 12 h, page-past s b p h) (unfold free_at in unfold outside in refusal s b 5 (λ x. omega arith))

pub free_met : (s : Plain) (b : List ℕ) → Shaped s b → WellFormed (read_plain s b) → (off : ℕ) → Meets free_answer (plain_free s b off) (plain_free_bytes s b off) (free (read_plain s b) off)
unfolding plain_free plain_free_bytes free
free_met s b sh wf off = rw at-page (free_at_lem s b sh wf (off / 4096) (off % 4096))
  where
    at-page : (read_plain s b).page (off / 4096) ≡ page_at s b (off / 4096)
    at-page = unfold read_plain in refl
