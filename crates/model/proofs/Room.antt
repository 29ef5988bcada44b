-- When a call is refused for room, and what a refused call leaves.
use mathlib.Core.Path.{◌≡◌, refl, ap, subst}
use mathlib.Core.Logic.{inl, ◌≢◌, ◌↔◌}
use mathlib.Core.Bool.{Bool, true, false, cond, ◌||◌}
use mathlib.Core.Option.{Option, none, some}
use mathlib.Core.List.{List, [], ◌∷◌}
use Prim.Native.Nat.{ℕ, ◌+◌, ◌-◌, ◌/◌, ◌%◌, ◌≤◌, ◌<◌}
use native.Mathlib.Omega.{arith}
use lib.Dec.{eqb}
use Rattle.base.proofs.Cases.{clash, never, decided, cond_case}
use Rattle.model.specs.Classes.{chunk, starts_chunk, need_of}
use Rattle.model.specs.State.{Page, idle, slab, taken, inside, edge, Run, State, is_idle, is_open}
use Rattle.model.specs.Runs.{fit}
use Rattle.model.specs.WellFormed.{WellFormed}
use Rattle.model.specs.Calls.{Alloc, Answer, at, freed, no, Reply, no_room, outside, not_taken, not_a_start, refuse, alloc_run, tallied, cut_page, mark_chunk, alloc_chunk, alloc_for, alloc, free_at, free, step}
use Rattle.model.specs.View.{shown}
use Rattle.model.specs.Ruling.{granted, refused, verdict, clear_in, page_in, run_in, alloc_ruling, ruling}
use Rattle.model.specs.Claim.{NoChunk, ChunkRefused, ChunkRefusedShown, PagesRefused, PagesRefusedShown, Refusals}
use Rattle.model.proofs.Classes.{NeedOk, need_ok}
use Rattle.model.proofs.Runs.{fit_none}
use Rattle.model.proofs.Occupy.{were_idle}
use Rattle.model.proofs.Ruling.{calls_ruled}

module _ (s : State) (wf : WellFormed s) where
  -- a page of a run shorter than k, or a page that is not free: no k free pages stand in a row from it
  row_ends : (k : ℕ) → 1 ≤ k → fit k s.runs ≡ none → (a : ℕ) → (j : ℕ) × (j < k) × (s.page (a + j) ≢ idle)
  row_ends k pos e a = go (is_idle (s.page a)) refl
    where
      go : (t : Bool) → is_idle (s.page a) ≡ t → (j : ℕ) × (j < k) × (s.page (a + j) ≢ idle)
      go false d = (0, omega arith, λ z. let y : a + 0 ≡ a = omega arith in clash (rw (rw y at z)) d)
      go true d =
          let (x, m, l, u) = wf.free_runs.covers a d in (
            x.start + x.len - a,
            omega (arith, fit_none k s.runs e x m),
            λ z. clash (rw z) ((wf.free_runs.sound x m).high_end (a + (x.start + x.len - a)) (omega arith)),
          )

  pages-refused : (k : ℕ) → 1 ≤ k → (o : Option Run) → fit k s.runs ≡ o →
      ((alloc_run s k o).answer ≡ no no_room) ↔ ((a : ℕ) → (j : ℕ) × (j < k) × (s.page (a + j) ≢ idle))
  unfolding alloc_run refuse
  pages-refused k pos none e = (λ h. row_ends k pos e, λ h. refl)
  pages-refused k pos (some r) e =
      (λ h. absurd (never (cc)), λ h. let (j, l, n) = h r.start in absurd (n (were_idle wf.table wf.free_runs k pos r e (r.start + j) (omega arith) (omega arith))))

  chunk_refused_lem : (c : ℕ) (l : List ℕ) → s.lists c ≡ l → (o : Option Run) → fit 1 s.runs ≡ o → ((alloc_chunk s c l).answer ≡ no no_room) ↔ NoChunk s c
  unfolding alloc_chunk mark_chunk
  chunk_refused_lem c (p ∷ rest) e o d =
      (λ h. absurd (never (cc)), λ h. absurd (clash (wf.class-lists.holds c p (rw e (inl refl))) (h.none_clear p)))
  chunk_refused_lem c [] e o d = rw d (cut o d)
    where
      none_left : fit 1 s.runs ≡ none → NoChunk s c
      none_left z = record {
        none_clear = λ p. decided (is_open c (s.page p)) (λ t. rw e at (wf.class-lists.all c p t));
        none_free = λ p t. let (x, m, l, u) = wf.free_runs.covers p (rw t) in omega (arith, fit_none 1 s.runs z x m);
      }

      cut : (o : Option Run) → fit 1 s.runs ≡ o → ((cut_page s c o).answer ≡ no no_room) ↔ NoChunk s c
      cut none z = (λ h. none_left z, λ h. unfold cut_page refuse in refl)
      cut (some r) z = (
        λ h. absurd (unfold cut_page in (never (cc h))),
        λ h. absurd (h.none_free r.start (were_idle wf.table wf.free_runs 1 (omega arith) r z r.start (omega arith) (omega arith))),
      )

pub refused-chunk : ChunkRefused
unfolding step alloc alloc_for
refused-chunk s wf n c h = rw h (chunk_refused_lem s wf c (s.lists c) refl (fit 1 s.runs) refl)

pub refused-pages : PagesRefused
unfolding step alloc alloc_for
refused-pages s wf n k h =
    let ok : 1 ≤ k = subst NeedOk h (need_ok n) in
    rw h (pages-refused s wf k ok (fit k s.runs) refl)

-- ---- read on what the state shows

refused-is : (a : Answer) (k : ℕ) → verdict a ≡ refused k → a ≡ no k
refused-is (at off) k e = absurd (never (cc))
refused-is (freed n) k e = absurd (never (cc))
refused-is (no j) k e = cc

-- an answer that is granted exactly when the test holds
by_test : (a : Answer) (t : Bool) (k : ℕ) → verdict a ≡ cond t granted (refused k) → (a ≡ no k) ↔ (t ≡ false)
by_test a true k e = (λ h. absurd (never (cc (ap verdict h))), λ h. absurd (clash refl h))
by_test a false k e = (λ h. refl, λ h. refused-is a k e)

pub chunk_refused-shown : ChunkRefusedShown
unfolding ruling alloc_ruling
chunk_refused-shown s wf n c h =
    let e : verdict (step s (Alloc n)).answer ≡ cond (clear_in (shown s) c || page_in (shown s)) granted (refused no_room) = rw h at (calls_ruled s wf (Alloc n)) in
    let (a, b) = by_test (step s (Alloc n)).answer (clear_in (shown s) c || page_in (shown s)) no_room e in
    (λ z. or_false (clear_in (shown s) c) (page_in (shown s)) (a z), λ (x, y). b (rw (x, y)))
  where
    or_false : (t u : Bool) → t || u ≡ false → (t ≡ false) × (u ≡ false)
    or_false true u z = absurd (clash refl z)
    or_false false u z = (refl, z)

pub pages-refused-shown : PagesRefusedShown
unfolding ruling alloc_ruling
pages-refused-shown s wf n k h =
    let e : verdict (step s (Alloc n)).answer ≡ cond (run_in (shown s) k) granted (refused no_room) = rw h at (calls_ruled s wf (Alloc n)) in
    by_test (step s (Alloc n)).answer (run_in (shown s) k) no_room e

-- ---- what a refused call leaves

module _ (s : State) where
  run-refused : (j k : ℕ) (o : Option Run) → (alloc_run s j o).answer ≡ no k → (alloc_run s j o).after ≡ s
  unfolding alloc_run refuse
  run-refused j k none e = refl
  run-refused j k (some r) e = absurd (never (cc))

  chunk-left : (c k : ℕ) (l : List ℕ) → (alloc_chunk s c l).answer ≡ no k → (alloc_chunk s c l).after ≡ tallied s c
  unfolding alloc_chunk mark_chunk
  chunk-left c k (p ∷ rest) e = absurd (never (cc))
  chunk-left c k [] e = cut (fit 1 s.runs) e
    where
      cut : (o : Option Run) → (cut_page s c o).answer ≡ no k → (cut_page s c o).after ≡ tallied s c
      cut none e = unfold cut_page refuse in refl
      cut (some r) e = unfold cut_page in (absurd (never (cc e)))

  -- the reply r leaves the state as it was, if it is refused
  record Leaves (r : Reply) : Type 0 where
    same : (k : ℕ) → r.answer ≡ no k → r.after ≡ s

  refuse_leaves : (k : ℕ) → Leaves (refuse s k)
  unfolding refuse
  refuse_leaves k = record { same = λ _ _. refl }

  freed_leaves : (n : ℕ) (s' : State) → Leaves (record { answer = freed n; after = s' })
  freed_leaves n s' = record { same = λ k e. absurd (never (cc)) }

  free_leaves : (p q : ℕ) (x : Page) → Leaves (free_at s p q x)
  unfolding free_at
  free_leaves p q idle = refuse_leaves not_taken
  free_leaves p q (slab c m) =
      cond_case Leaves (starts_chunk c q) (λ _. cond_case Leaves (m (q / chunk c)) (λ _. freed_leaves _ _) (λ _. refuse_leaves not_taken)) (λ _. refuse_leaves not_a_start)
  free_leaves p q (taken n) = cond_case Leaves (eqb q 0) (λ _. freed_leaves _ _) (λ _. refuse_leaves not_a_start)
  free_leaves p q inside = refuse_leaves not_a_start
  free_leaves p q edge = refuse_leaves outside

pub refusals : (s : State) → Refusals s
unfolding step alloc need_of alloc_for free
refusals s = record {
  nothing = refl;
  chunk = λ n c k h. rw h (chunk-left s c k (s.lists c));
  run = λ n j k h. rw h (run-refused s j k (fit j s.runs));
  free = λ off. (free_leaves s (off / 4096) (off % 4096) (s.page (off / 4096))).same;
}
