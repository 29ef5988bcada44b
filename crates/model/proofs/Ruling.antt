-- Whether a call is granted, and by which number it is refused, is what the state shows.
use mathlib.Core.Path.{◌≡◌, refl, sym, ◌∙◌}
use mathlib.Core.Logic.{inl, inr, ◌≢◌}
use mathlib.Core.Bool.{Bool, true, false, cond, ◌&&◌, not}
use mathlib.Core.Option.{Option, none, some}
use mathlib.Core.List.{List, [], ◌∷◌}
use Prim.Native.Nat.{ℕ, ◌+◌, ◌/◌, ◌%◌, ◌≤◌}
use native.Mathlib.Omega.{arith}
use lib.Dec.{eqb, leb}
use borrow.Author.Tests.{leb-true, leb-false, le-leb}
use Rattle.base.specs.Search.{any}
use Rattle.base.specs.Lists.{Mem}
use Rattle.base.proofs.Cases.{never, decided, cond_case}
use Rattle.base.proofs.Search.{any_some, any_at}
use Rattle.model.specs.Classes.{chunk, chunks, has_clear, starts_chunk, Need, nothing, chunk_of, pages, need_of}
use Rattle.model.specs.State.{Page, idle, slab, taken, inside, edge, Run, State, marks_of, is_open}
use Rattle.model.specs.Runs.{fit, starts_at}
use Rattle.model.specs.WellFormed.{WellFormed}
use Rattle.model.specs.Calls.{Alloc, Free, Reply, no_room, refuse, alloc_run, cut_page, mark_chunk, alloc_chunk, alloc_for, alloc, free_at, free, step}
use Rattle.model.specs.View.{is_vacant, is_class, kind_of, shown}
use Rattle.model.specs.Ruling.{Verdict, granted, refused, verdict, clear_in, page_in, run_in, alloc_ruling, free_ruling, past_end, ruling}
use Rattle.model.specs.Claim.{CallsRuled}
use Rattle.model.proofs.Classes.{NeedOk, need_ok}
use Rattle.model.proofs.Runs.{fit_found, fit_none, Keyed, keyed, starts_at_lem}
use Rattle.model.proofs.Table.{in_table}
use Rattle.model.proofs.Lists.{open_is}
use Rattle.model.proofs.Occupy.{were_idle, in_size}

-- a page of class c with a clear mark, read on the view
open_shown : (c : ℕ) (x : Page) → is_class c (kind_of x) && any (λ i. not (marks_of x i)) (chunks c) ≡ is_open c x
unfolding is_open has_clear
open_shown c idle = refl
open_shown c (slab d m) = refl
open_shown c (taken n) = refl
open_shown c inside = refl
open_shown c edge = refl

vacant-is : (x : Page) → is_vacant (kind_of x) ≡ true → x ≢ edge → x ≡ idle
vacant-is idle e d = refl
vacant-is (slab c m) e d = absurd (never (cc))
vacant-is (taken n) e d = absurd (never (cc))
vacant-is inside e d = absurd (never (cc))
vacant-is edge e d = absurd (d refl)

-- the reply r is as v says
record Ruled (r : Reply) (v : Verdict) : Type 0 where
  is : verdict r.answer ≡ v

same_choice : (t : Bool) {a b : Reply} {v w : Verdict} → (t ≡ true → Ruled a v) → (t ≡ false → Ruled b w) → Ruled (cond t a b) (cond t v w)
same_choice true h k = h refl
same_choice false h k = k refl

module _ (s : State) (wf : WellFormed s) where
  -- ---- room

  abbrev clear : ℕ → ℕ → Bool
  clear c p = is_class c (kind_of (s.page p)) && any (λ i. not (marks_of (s.page p) i)) (chunks c)

  clear_seen : (c p : ℕ) → Mem p (s.lists c) → clear_in (shown s) c ≡ true
  unfolding clear_in shown
  clear_seen c p n =
      let h : is_open c (s.page p) ≡ true = wf.class-lists.holds c p n in
      let (m, was, _) = open_is c (s.page p) h in
      any_at (clear c) s.size p (in_table wf.table p (λ e. never (cc))) (open_shown c (s.page p) ∙ h)

  clear_unseen : (c : ℕ) → s.lists c ≡ [] → clear_in (shown s) c ≡ false
  unfolding clear_in shown
  clear_unseen c e =
      decided (any (clear c) s.size) (λ t. let (p, l, z) = any_some (clear c) s.size t in
      rw e at (wf.class-lists.all c p (sym (open_shown c (s.page p)) ∙ z)))

  page-seen : (k : ℕ) (r : Run) → fit k s.runs ≡ some r → 1 ≤ k → page_in (shown s) ≡ true
  unfolding page_in shown
  page-seen k r e pos =
      let h : s.page r.start ≡ idle = were_idle wf.table wf.free_runs k pos r e r.start (omega arith) (omega arith) in
      any_at (λ p. is_vacant (kind_of (s.page p))) s.size r.start (in_table wf.table r.start (λ z. never (cc))) (rw h)

  page_unseen : fit 1 s.runs ≡ none → page_in (shown s) ≡ false
  unfolding page_in shown
  page_unseen e = decided (any (λ p. is_vacant (kind_of (s.page p))) s.size) none_seen
    where
      none_seen : any (λ p. is_vacant (kind_of (s.page p))) s.size ≡ true → ⊥
      none_seen t =
          let (p, l, z) = any_some (λ p. is_vacant (kind_of (s.page p))) s.size t in
          let h : s.page p ≡ idle = vacant-is (s.page p) z (λ d. omega (arith, wf.table.ends p d)) in
          let (x, m, a, b) = wf.free_runs.covers p (rw h) in
          omega (arith, fit_none 1 s.runs e x m)

  run-seen : (k : ℕ) (r : Run) → fit k s.runs ≡ some r → 1 ≤ k → run_in (shown s) k ≡ true
  unfolding run_in shown
  run-seen k r e pos =
      let (m, fits) = fit_found k s.runs r e in
      let h : r.start + k ≤ s.size = in_size wf.table wf.free_runs k pos r e in
      any_at (λ p. leb k (starts_at p s.runs)) s.size r.start (omega arith) (rw (starts_at_lem wf.free_runs r m) (le-leb k r.len fits))

  run_unseen : (k : ℕ) → 1 ≤ k → fit k s.runs ≡ none → run_in (shown s) k ≡ false
  unfolding run_in shown Keyed
  run_unseen k pos e = decided (any (λ p. leb k (starts_at p s.runs)) s.size) none_seen
    where
      none_seen : any (λ p. leb k (starts_at p s.runs)) s.size ≡ true → ⊥
      none_seen t = let (p, l, z) = any_some (λ p. leb k (starts_at p s.runs)) s.size t in go p (leb-true k (starts_at p s.runs) z) (keyed (λ r. r.start) p s.runs)
        where
          go : (p : ℕ) → k ≤ starts_at p s.runs → Keyed (λ r. r.start) p s.runs (starts_at p s.runs) → ⊥
          go p l (inl (x, m, q, w)) = omega (arith, fit_none k s.runs e x m)
          go p l (inr (z, n)) = omega arith

  -- ---- alloc

  chunk-ruled : (c : ℕ) (l : List ℕ) → s.lists c ≡ l → verdict (alloc_chunk s c l).answer ≡ alloc_ruling (shown s) (chunk_of c)
  unfolding alloc_chunk mark_chunk alloc_ruling
  chunk-ruled c (p ∷ rest) e = rw (clear_seen c p (rw e (inl refl)))
  chunk-ruled c [] e = rw (clear_unseen c e) (cut (fit 1 s.runs) refl)
    where
      cut : (o : Option Run) → fit 1 s.runs ≡ o → verdict (cut_page s c o).answer ≡ cond (page_in (shown s)) granted (refused no_room)
      cut none d = unfold cut_page refuse in (rw (page_unseen d))
      cut (some r) d = unfold cut_page in (rw (page-seen 1 r d (omega arith)))

  run-ruled : (k : ℕ) → 1 ≤ k → (o : Option Run) → fit k s.runs ≡ o → verdict (alloc_run s k o).answer ≡ alloc_ruling (shown s) (pages k)
  unfolding alloc_run refuse alloc_ruling
  run-ruled k pos none e = rw (run_unseen k pos e)
  run-ruled k pos (some r) e = rw (run-seen k r e pos)

  need_ruled : (need : Need) → NeedOk need → verdict (alloc_for s need).answer ≡ alloc_ruling (shown s) need
  unfolding alloc_for refuse alloc_ruling
  need_ruled nothing ok = refl
  need_ruled (chunk_of c) ok = chunk-ruled c (s.lists c) refl
  need_ruled (pages k) ok = run-ruled k ok (fit k s.runs) refl

  -- ---- free

  -- page p is x, and the offset lies q bytes into it
  at-ruled : (p q : ℕ) (x : Page) → s.page p ≡ x → x ≢ edge → Ruled (free_at s p q x) (free_ruling (shown s) p q (kind_of x))
  unfolding free_at free_ruling shown refuse
  at-ruled p q edge h d = absurd (d refl)
  at-ruled p q idle h d = record { is = refl }
  at-ruled p q inside h d = record { is = refl }
  at-ruled p q (taken n) h d = same_choice (eqb q 0) (λ _. record { is = refl }) (λ _. record { is = refl })
  at-ruled p q (slab c m) h d =
      let e : marks_of (s.page p) (q / chunk c) ≡ m (q / chunk c) = rw h in
      rw e (same_choice (starts_chunk c q) (λ _. same_choice (m (q / chunk c)) (λ _. record { is = refl }) (λ _. record { is = refl })) (λ _. record { is = refl }))

  past_end_lem : (off : ℕ) → past_end (shown s) off ≡ true → s.page (off / 4096) ≡ edge
  unfolding past_end shown
  past_end_lem off e = wf.table.past (off / 4096) (omega (arith, leb-true))

  before-end : (off : ℕ) → past_end (shown s) off ≡ false → s.page (off / 4096) ≢ edge
  unfolding past_end shown
  before-end off e d = omega (arith, leb-false, wf.table.ends (off / 4096) d)

  free-ruled : (off : ℕ) → Ruled (free s off) (ruling (shown s) (Free off))
  unfolding free ruling shown free_at refuse
  free-ruled off =
      cond_case (Ruled (free_at s (off / 4096) (off % 4096) (s.page (off / 4096)))) (past_end (shown s) off) (λ e. rw (past_end_lem off e) (record { is = refl }))
      (λ e. at-ruled (off / 4096) (off % 4096) (s.page (off / 4096)) refl (before-end off e))

pub calls_ruled : CallsRuled
unfolding step alloc ruling
calls_ruled s wf (Alloc n) = need_ruled s wf (need_of n) (need_ok n)
calls_ruled s wf (Free off) = (free-ruled s wf off).is
