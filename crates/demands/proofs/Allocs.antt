-- Alloc on the bytes of a sound pool does what the model does, given what each operation does.
use mathlib.Core.Path.{◌≡◌, refl, sym, ap, ◌∙◌}
use mathlib.Core.Logic.{◌⊎◌, inl, inr, ◌≢◌}
use mathlib.Core.Option.{Option, none, some}
use mathlib.Core.List.{List, [], ◌∷◌}
use Prim.Native.Nat.{ℕ, ◌+◌, ◌%◌, ◌≤◌, ◌<◌}
use native.Mathlib.Omega.{arith}
use borrow.Author.Tests.{eq-eqb, ne_eqb, lt-ltb, le-ltb, le-leb, lt-leb}
use Rattle.base.specs.Tests.{pick}
use Rattle.base.specs.Links.{head_or}
use Rattle.base.proofs.Cases.{eq?, lt?}
use Rattle.records.specs.Layout.{no_page}
use Rattle.answers.specs.Outcome.{Outcome}
use Rattle.model.specs.Classes.{lowest, class_of, pages_for, chunk_of, pages, need_of}
use Rattle.model.specs.State.{Run, State, marks_of}
use Rattle.model.specs.Runs.{fit}
use Rattle.model.specs.Calls.{Reply, no_room, nothing_asked, refuse, tallied, alloc_run, cut_page, mark_chunk, alloc_chunk, alloc_for, alloc}
use Rattle.model.proofs.Classes.{class_ok}
use Rattle.lists.specs.Mirror.{first_of}
use Rattle.run_extents.specs.Mirror.{fit_in, run_taken}
use Rattle.classes.specs.Mirror.{chunk_refused}
use Rattle.class_peaks.specs.Mirror.{peak_raised}
use Rattle.chunks.specs.Mirror.{chunk_taken, page_cut}
use Rattle.run_laws.specs.OnImage.{start_or}
use Rattle.sizes.proofs.Laws.{class-is}
use Rattle.alloc_sound.specs.Mirror.{lowest_on, chunk_outcome, chunk_slice, first_outcome, cut_outcome, cut_slice, new_outcome, new_slice, from_outcome, from_slice, class_outcome, class_slice, small_slice, run_outcome, run_slice, pages_outcome, pages_slice, alloc_outcome, alloc_slice}
use Rattle.drawing.specs.Draw.{draw}
use Rattle.demands.specs.Calls.{outcome, redrawn}

-- what reading and each operation do on the bytes s, which show the state m of P pages
pub record AllocFacts (w : ℕ) (s : List ℕ) (P : ℕ) (m : State) : Type 0 where
  pub same : draw w s m ≡ s
  pub first : (c : ℕ) → c ≤ 8 → first_of w s (1 + c) ≡ head_or no_page (m.lists c)
  pub few : P ≤ no_page
  pub listed : (c p : ℕ) (rest : List ℕ) → c ≤ 8 → m.lists c ≡ p ∷ rest → p < P
  pub fits : (k : ℕ) → 1 ≤ k → fit_in w s P k ≡ start_or (fit k m.runs)
  pub found : (k : ℕ) (r : Run) → fit k m.runs ≡ some r → (r.start ≢ no_page) × (k < 65536)
  pub low : (c p : ℕ) (rest : List ℕ) → c ≤ 8 → m.lists c ≡ p ∷ rest → lowest_on w s P c p ≡ lowest c (marks_of (m.page p))
  pub chunk : (c p : ℕ) (rest : List ℕ) → c ≤ 8 → m.lists c ≡ p ∷ rest →
      chunk_taken w s P c p (lowest c (marks_of (m.page p))) ≡ draw w s (mark_chunk m c p rest (marks_of (m.page p))).after
  pub cut : (c : ℕ) (r : Run) → c ≤ 8 → m.lists c ≡ [] → fit 1 m.runs ≡ some r → page_cut w s P c r.start ≡ draw w s (cut_page m c (some r)).after
  pub refuse-chunk : (c : ℕ) → c ≤ 8 → chunk_refused w s c ≡ draw w s (tallied m c)
  -- the peak of the chunk's class follows; nothing else raises one
  pub peak : (n c : ℕ) → need_of n ≡ chunk_of c → c ≤ 8 → peak_raised w (draw w s (alloc_for m (chunk_of c)).after) c ≡ redrawn w s (alloc_for m (chunk_of c)).after
  pub level : (n k : ℕ) → need_of n ≡ pages k → draw w s (alloc_for m (pages k)).after ≡ redrawn w s (alloc_for m (pages k)).after
  pub back : s ≡ redrawn w s m
  pub run : (k : ℕ) (r : Run) → 1 ≤ k → fit k m.runs ≡ some r → run_taken w s r.start k ≡ draw w s (alloc_run m k (some r)).after

-- answer and slice of a call
pub record Does (w : ℕ) (s : List ℕ) (o : Outcome) (t : List ℕ) (r : Reply) : Type 0 where
  pub answer : o ≡ outcome r.answer
  pub slice : t ≡ draw w s r.after

-- the same, with the peaks raised
pub record Redone (w : ℕ) (s : List ℕ) (o : Outcome) (t : List ℕ) (r : Reply) : Type 0 where
  pub answer : o ≡ outcome r.answer
  pub slice : t ≡ redrawn w s r.after

module _ {w : ℕ} {s : List ℕ} {P : ℕ} {m : State} (F : AllocFacts w s P m) where
  -- a new page, or none
  cut_does : (c : ℕ) → c ≤ 8 → m.lists c ≡ [] → (f : Option Run) → fit 1 m.runs ≡ f → Does w s (cut_outcome c (start_or f)) (cut_slice w s P c (start_or f)) (cut_page m c f)
  unfolding cut_outcome cut_slice first_outcome pick cut_page refuse no_room
  cut_does c h e none f = record { answer = refl; slice = F.refuse-chunk c h }
  cut_does c h e (some r) f =
      let d = (F.found 1 r f).0 in
      record { answer = rw (ne_eqb r.start no_page d); slice = rw (ne_eqb r.start no_page d) (F.cut c r h e f) }

  from_does : (c : ℕ) → c ≤ 8 → (l : List ℕ) → m.lists c ≡ l → Does w s (from_outcome w s P c (head_or no_page l)) (from_slice w s P c (head_or no_page l)) (alloc_chunk m c l)
  unfolding from_outcome from_slice new_outcome new_slice chunk_outcome chunk_slice pick alloc_chunk mark_chunk
  from_does c h [] e =
      let D = cut_does c h e (fit 1 m.runs) refl in
      rw (le-ltb no_page P F.few, F.fits 1 (omega arith)) D
  from_does c h (p ∷ rest) e =
      rw (lt-ltb p P (F.listed c p rest h e), F.low c p rest h e) (record { answer = refl; slice = F.chunk c p rest h e })

  class_does : (c : ℕ) → c ≤ 8 → Does w s (class_outcome w s P c) (class_slice w s P c) (alloc_for m (chunk_of c))
  unfolding class_outcome class_slice alloc_for
  class_does c h = rw (F.first c h) (from_does c h (m.lists c) refl)

  run_does : (k : ℕ) → 1 ≤ k → (f : Option Run) → fit k m.runs ≡ f → Does w s (run_outcome (start_or f)) (run_slice w s k (start_or f)) (alloc_run m k f)
  unfolding run_outcome run_slice pick alloc_run refuse no_room
  run_does k h none f = record { answer = refl; slice = sym F.same }
  run_does k h (some r) f =
      let (d, l) = F.found k r f in
      let z : k % 65536 ≡ k = omega arith in
      record { answer = rw (ne_eqb r.start no_page d); slice = rw (ne_eqb r.start no_page d, z) (F.run k r h f) }

  pages_does : (k : ℕ) → 1 ≤ k → Does w s (pages_outcome w s P k) (pages_slice w s P k) (alloc_for m (pages k))
  unfolding pages_outcome pages_slice alloc_for
  pages_does k h = rw (F.fits k h) (run_does k h (fit k m.runs) refl)

  -- with the peaks raised
  small_redone : (n c : ℕ) → need_of n ≡ chunk_of c → c ≤ 8 → Redone w s (class_outcome w s P c) (small_slice w s P c) (alloc_for m (chunk_of c))
  unfolding small_slice
  small_redone n c e h = let D = class_does c h in record { answer = D.answer; slice = ap (λ (t : List ℕ). peak_raised w t c) D.slice ∙ F.peak n c e h }

  pages_redone : (n k : ℕ) → need_of n ≡ pages k → 1 ≤ k → Redone w s (pages_outcome w s P k) (pages_slice w s P k) (alloc_for m (pages k))
  pages_redone n k e h = let D = pages_does k h in record { answer = D.answer; slice = D.slice ∙ F.level n k e }

  pub alloc_does : (n : ℕ) → Redone w s (alloc_outcome w s P n) (alloc_slice w s P n) (alloc m n)
  unfolding alloc_outcome alloc_slice alloc need_of pick pages_for
  alloc_does n = go (eq? n 0) (lt? 2048 n)
    where
      go : (n ≡ 0) ⊎ (n ≢ 0) → (2048 < n) ⊎ (n ≤ 2048) → Redone w s (alloc_outcome w s P n) (alloc_slice w s P n) (alloc m n)
      go (inl z) t = rw (eq-eqb n 0 z) (unfold alloc_for refuse nothing_asked in (record { answer = refl; slice = F.back }))
      go (inr z) (inr h) = rw (ne_eqb n 0 z, le-leb n 2048 h, class-is n h) (small_redone n (class_of n) (rw (ne_eqb n 0 z, le-leb n 2048 h)) (class_ok n h))
      go (inr z) (inl h) = rw (ne_eqb n 0 z, lt-leb n 2048 h) (pages_redone n (pages_for n) (rw (ne_eqb n 0 z, lt-leb n 2048 h)) (omega arith))
