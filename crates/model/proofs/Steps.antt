-- Every call keeps a well-formed state well formed, and does to the live blocks what `Effect` says.
use mathlib.Core.Path.{◌≡◌, refl, subst}
use mathlib.Core.Logic.{inl}
use mathlib.Core.Bool.{Bool, true, false}
use mathlib.Core.Option.{Option, none, some}
use mathlib.Core.List.{List, [], ◌∷◌}
use Prim.Native.Nat.{ℕ, ◌+◌, ◌*◌, ◌/◌, ◌%◌, ◌≤◌, ◌<◌}
use native.Mathlib.Omega.{arith}
use lib.Dec.{eqb}
use borrow.Author.Tests.{eqb-true}
use Rattle.base.specs.Functions.{upd}
use Rattle.base.proofs.Cases.{cond_case}
use Rattle.model.specs.Classes.{chunk, chunks, own, has_taken, starts_chunk, Need, nothing, chunk_of, pages, need_of}
use Rattle.model.specs.State.{Page, idle, slab, taken, inside, edge, Run, State}
use Rattle.model.specs.Runs.{fit}
use Rattle.model.specs.WellFormed.{WellFormed}
use Rattle.model.specs.Calls.{Alloc, Free, freed, outside, not_taken, not_a_start, refuse, alloc_run, tallied, cut_page, mark_chunk, alloc_chunk, alloc_for, alloc, release, keep_page, drop_page, free_chunk, free_at, free, step}
use Rattle.model.specs.Live.{block_for}
use Rattle.model.specs.Effects.{AllocEffect, FreeEffect, Effect, SlabsFrom}
use Rattle.model.specs.Claim.{Kept, CallsKeep}
use Rattle.model.proofs.Classes.{chunk_index, chunk_start, NeedOk, need_ok}
use Rattle.model.proofs.Table.{slab_ok}
use Rattle.model.proofs.Lists.{open_is}
use Rattle.model.proofs.Tallies.{failed_ok}
use Rattle.model.proofs.AllocRun.{run_adds, run-slabs, run-well}
use Rattle.model.proofs.CutPage.{cut_adds, cut-slabs, cut-well}
use Rattle.model.proofs.MarkChunk.{mark_adds, mark-slabs, mark-well}
use Rattle.model.proofs.FreeRun.{released_strikes, released-slabs, released-well}
use Rattle.model.proofs.FreeChunk.{kept_strikes, kept-slabs, kept-well, drop_strikes, drop-slabs, drop-well}

stay : (f : ℕ → Page) → SlabsFrom f f
stay f p c m h = inl (m, h)

module _ (s : State) (wf : WellFormed s) where
  -- ---- alloc

  run-kept : (k : ℕ) → 1 ≤ k → (o : Option Run) → fit k s.runs ≡ o → Kept s (AllocEffect (pages k)) (alloc_run s k o)
  unfolding alloc_run refuse AllocEffect block_for
  run-kept k pos none e = record { well = wf; size = refl; effect = refl; slabs = stay s.page }
  run-kept k pos (some r) e = record {
    well = run-well s wf k pos r e;
    size = refl;
    effect = run_adds s wf k pos r e;
    slabs = run-slabs s wf k pos r e;
  }

  cut-kept : (c : ℕ) → c ≤ 8 → s.lists c ≡ [] → (o : Option Run) → fit 1 s.runs ≡ o → Kept s (AllocEffect (chunk_of c)) (cut_page s c o)
  unfolding cut_page refuse tallied AllocEffect block_for
  cut-kept c ok empty none e = record {
    well = record {
      some-page = wf.some-page;
      table = wf.table;
      free_runs = wf.free_runs;
      class-lists = wf.class-lists;
      tallies = failed_ok wf.tallies c ok;
    };
    size = refl;
    effect = refl;
    slabs = stay s.page;
  }
  cut-kept c ok empty (some r) e = record {
    well = cut-well s wf c ok empty r e;
    size = refl;
    effect = cut_adds s wf c ok empty r e;
    slabs = cut-slabs s wf c ok empty r e;
  }

  chunk_kept : (c : ℕ) → c ≤ 8 → (l : List ℕ) → s.lists c ≡ l → Kept s (AllocEffect (chunk_of c)) (alloc_chunk s c l)
  unfolding alloc_chunk mark_chunk AllocEffect block_for
  chunk_kept c ok [] e = cut-kept c ok e (fit 1 s.runs) refl
  chunk_kept c ok (p ∷ rest) e =
      let (m, was, clear) = open_is c (s.page p) (wf.class-lists.holds c p (rw e (inl refl))) in
      rw was (record {
        well = mark-well s wf c p rest m e was;
        size = refl;
        effect = mark_adds s wf c p rest m e was;
        slabs = mark-slabs s wf c p rest m e was;
      })

  need_kept : (need : Need) → NeedOk need → Kept s (AllocEffect need) (alloc_for s need)
  unfolding alloc_for refuse AllocEffect
  need_kept nothing ok = record { well = wf; size = refl; effect = refl; slabs = stay s.page }
  need_kept (chunk_of c) ok = chunk_kept c ok (s.lists c) refl
  need_kept (pages k) ok = run-kept k ok (fit k s.runs) refl

  -- ---- free

  refused : (off k : ℕ) → Kept s (FreeEffect off) (refuse s k)
  unfolding refuse FreeEffect
  refused off k = record { well = wf; size = refl; effect = refl; slabs = stay s.page }

  -- chunk i of page p, where a block begins
  chunk_freed : (p c : ℕ) (m : ℕ → Bool) (i : ℕ) → s.page p ≡ slab c m → own c ≤ i → i < chunks c → m i ≡ true →
      Kept s (FreeEffect (4096 * p + chunk c * i)) (record { answer = freed (chunk c); after = free_chunk s p c m i })
  unfolding free_chunk keep_page drop_page release FreeEffect
  chunk_freed p c m i was o l e =
      cond_case (λ (s' : State). Kept s (FreeEffect (4096 * p + chunk c * i)) (record { answer = freed (chunk c); after = s' })) (has_taken c (upd m i false))
      (λ t. record {
        well = kept-well s wf p c m i was o l e t;
        size = refl;
        effect = kept_strikes s wf p c m i was o l e t;
        slabs = kept-slabs s wf p c m i was o l e t;
      })
      (λ t. record {
        well = drop-well s wf p c m i was o l e t;
        size = refl;
        effect = drop_strikes s wf p c m i was o l e t;
        slabs = drop-slabs s wf p c m i was o l e t;
      })

  run-freed : (p n : ℕ) → s.page p ≡ taken n → Kept s (FreeEffect (4096 * p)) (record { answer = freed (4096 * n); after = release s p n })
  unfolding release FreeEffect
  run-freed p n was = record {
    well = released-well s wf p n was;
    size = refl;
    effect = released_strikes s wf p n was;
    slabs = released-slabs s wf p n was;
  }

  at-kept : (off : ℕ) (x : Page) → s.page (off / 4096) ≡ x → Kept s (FreeEffect off) (free_at s (off / 4096) (off % 4096) x)
  unfolding free_at
  at-kept off idle e = refused off not_taken
  at-kept off inside e = refused off not_a_start
  at-kept off edge e = refused off outside
  at-kept off (taken n) e =
      cond_case (Kept s (FreeEffect off)) (eqb (off % 4096) 0) (λ d. moved (omega (arith, eqb-true (off % 4096) 0 d))) (λ d. refused off not_a_start)
    where
      moved : 4096 * (off / 4096) ≡ off → Kept s (FreeEffect off) (record { answer = freed (4096 * n); after = release s (off / 4096) n })
      moved z = subst (λ (a : ℕ). Kept s (FreeEffect a) (record { answer = freed (4096 * n); after = release s (off / 4096) n })) z (run-freed (off / 4096) n e)
  at-kept off (slab c m) e =
      cond_case (Kept s (FreeEffect off)) (starts_chunk c (off % 4096))
      (λ d. cond_case (Kept s (FreeEffect off)) (m i) (λ g. let (z, o) = chunk_start c (off % 4096) d in moved z o g) (λ g. refused off not_taken))
      (λ d. refused off not_a_start)
    where
      i : ℕ
      i = off % 4096 / chunk c

      moved : off % 4096 ≡ chunk c * i → own c ≤ i → m i ≡ true → Kept s (FreeEffect off) (record { answer = freed (chunk c); after = free_chunk s (off / 4096) c m i })
      moved z o g =
          let w : 4096 * (off / 4096) + chunk c * i ≡ off = omega arith in
          subst (λ (a : ℕ). Kept s (FreeEffect a) (record { answer = freed (chunk c); after = free_chunk s (off / 4096) c m i })) w
          (chunk_freed (off / 4096) c m i e o (chunk_index c (slab_ok wf.table e).in_range i (omega arith)) g)

pub step_kept : CallsKeep
unfolding step alloc free Effect
step_kept s wf (Alloc n) = need_kept s wf (need_of n) (need_ok n)
step_kept s wf (Free off) = at-kept s wf off (s.page (off / 4096)) refl
