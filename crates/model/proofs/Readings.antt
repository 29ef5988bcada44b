-- The expected view of a state's live set, read in the words of SPEC 6.3.
use mathlib.Core.Path.{◌≡◌, refl, sym, ap, ◌∙◌, subst}
use mathlib.Core.Logic.{◌⊎◌, inl, inr, ◌≢◌, ◌↔◌}
use mathlib.Core.Bool.{Bool, true, false, cond, ◌||◌}
use mathlib.Core.List.{List}
use Prim.Native.Nat.{ℕ, ◌+◌, ◌*◌, ◌/◌, ◌≤◌, ◌<◌}
use native.Mathlib.Omega.{arith}
use lib.Dec.{eqb, ltb}
use borrow.Author.Tests.{lt-ltb, le-ltb, eq-eqb}
use Rattle.base.specs.Lists.{Mem}
use Rattle.base.proofs.Cases.{clash, never, lt?, decided}
use Rattle.model.specs.Classes.{chunk, chunks, own}
use Rattle.model.specs.State.{Page, idle, slab, taken, inside, edge, Run, State}
use Rattle.model.specs.Runs.{starts_at}
use Rattle.model.specs.WellFormed.{Stretch, RunsOk, WellFormed}
use Rattle.model.specs.Live.{Block, small, large, offset, On, Live, LiveSet}
use Rattle.model.specs.View.{vacant, class, run_of, within, kind_of}
use Rattle.model.specs.Expected.{covers, kind_in, kind_at, free_page, stretch_at, begins, mark_in, expected}
use Rattle.model.specs.Claim.{Reads}
use Rattle.model.proofs.Runs.{run_path, runs_same, stretch_listed, Keyed, keyed, starts_at_lem}
use Rattle.model.proofs.Shown.{begins-mem, begins_at, shows, slab_held, covered, page-shown, free-shown, run-shown}

kind-class : (c : ℕ) (x : Page) → kind_of x ≡ class c → (m : ℕ → Bool) × (x ≡ slab c m)
kind-class c idle e = absurd (never (cc))
kind-class c (slab d m) e = (m, let z : d ≡ c = cc in ap (λ (n : ℕ). slab n m) z)
kind-class c (taken n) e = absurd (never (cc))
kind-class c inside e = absurd (never (cc))
kind-class c edge e = absurd (never (cc))

kind-run : (n : ℕ) (x : Page) → kind_of x ≡ run_of n → x ≡ taken n
kind-run n idle e = absurd (never (cc))
kind-run n (slab d m) e = absurd (never (cc))
kind-run n (taken k) e = let z : k ≡ n = cc in ap taken z
kind-run n inside e = absurd (never (cc))
kind-run n edge e = absurd (never (cc))

kind-within : (x : Page) → kind_of x ≡ within → x ≡ inside
kind-within idle e = absurd (never (cc))
kind-within (slab d m) e = absurd (never (cc))
kind-within (taken k) e = absurd (never (cc))
kind-within inside e = refl
kind-within edge e = absurd (never (cc))

-- a block makes no page vacant
kind_busy : (e : Block) (p : ℕ) → kind_in e p ≢ vacant
unfolding kind_in
kind_busy (small off c) p z = never (cc)
kind_busy (large off n) p z = go (eqb (off / 4096) p) z
  where
    go : (t : Bool) → cond t (run_of n) within ≢ vacant
    go true z = never (cc)
    go false z = never (cc)

-- where a large block is live
large_on : (x : Page) (q off n : ℕ) → On x q (large off n) → (off ≡ 4096 * q) × (x ≡ taken n)
unfolding On
large_on (slab c m) q off n (i, z, o, l, t) = absurd (never (cc))
large_on (taken k) q off n z = (cc, let y : k ≡ n = cc in ap taken y)
large_on edge q off n z = elim z [ ]
large_on inside q off n z = elim z [ ]
large_on idle q off n z = elim z [ ]

module _ {B : List Block} (s : State) (wf : WellFormed s) (set : LiveSet B s.page) where
  class-read : (p c : ℕ) → (kind_at B p ≡ class c) ↔ ((off : ℕ) × Mem (small off c) B × (off / 4096 ≡ p))
  unfolding covers kind_in
  class-read p c = (
    λ e. let (m, h) = kind-class c (s.page p) (page-shown s wf set p ∙ e) in slab_held s wf set p c m h,
    λ (off, m, z). sym (page-shown s wf set p) ∙ sym (shows s wf set (small off c) m p (eq-eqb (off / 4096) p z)),
  )

  -- a large block of the live set stands in the table
  large_there : (q n : ℕ) → Mem (large (4096 * q) n) B → s.page q ≡ taken n
  unfolding Live
  large_there q n m =
      let (p, x) = set.live (large (4096 * q) n) m in
      let (z, h) = large_on (s.page p) p (4096 * q) n x in
      let y : p ≡ q = omega arith in
      rw y at h

  there_large : (q n : ℕ) → s.page q ≡ taken n → Mem (large (4096 * q) n) B
  unfolding Live On
  there_large q n h = set.all (large (4096 * q) n) (q, rw h refl)

  first_read : (p n : ℕ) → (kind_at B p ≡ run_of n) ↔ Mem (large (4096 * p) n) B
  first_read p n =
      (λ e. there_large p n (kind-run n (s.page p) (page-shown s wf set p ∙ e)), λ m. sym (page-shown s wf set p) ∙ ap kind_of (large_there p n m))

  inner-read : (p : ℕ) → (kind_at B p ≡ within) ↔ ((q : ℕ) × (n : ℕ) × Mem (large (4096 * q) n) B × (q < p) × (p < q + n))
  inner-read p = (
    λ e. there (wf.table.owner p (kind-within (s.page p) (page-shown s wf set p ∙ e))),
    λ (q, n, m, l, u). sym (page-shown s wf set p) ∙ ap kind_of (wf.table.inner q n p (large_there q n m) l u),
  )
    where
      there : (q : ℕ) × (n : ℕ) × (s.page q ≡ taken n) × (q < p) × (p < q + n) → (q : ℕ) × (n : ℕ) × Mem (large (4096 * q) n) B × (q < p) × (p < q + n)
      there (q, n, h, l, u) = (q, n, there_large q n h, l, u)

  free-read : (p : ℕ) → (kind_at B p ≡ vacant) ↔ ((e : Block) → Mem e B → covers e p ≡ false)
  free-read p =
      (λ z e m. decided (covers e p) (λ t. kind_busy e p (shows s wf set e m p t ∙ page-shown s wf set p ∙ z)), λ h. sym (page-shown s wf set p) ∙ back h (covered s wf set p))
    where
      back : ((e : Block) → Mem e B → covers e p ≡ false) → (kind_of (s.page p) ≡ vacant) ⊎ ((e : Block) × Mem e B × (covers e p ≡ true)) → kind_of (s.page p) ≡ vacant
      back h (inl z) = z
      back h (inr (e, m, t)) = absurd (clash t (h e m))

  run-read : (p n : ℕ) → 1 ≤ n → (stretch_at s.size (free_page s.size B) p ≡ n) ↔ Stretch (free_page s.size B) (record { start = p; len = n })
  unfolding Keyed
  run-read p n pos = (λ e. there (keyed (λ r. r.start) p s.runs) (run-shown s wf set p ∙ e), λ h. sym (run-shown s wf set p) ∙ starts_at_lem ok it (stretch_listed ok it h))
    where
      it : Run
      it = record { start = p; len = n }

      ok : RunsOk (free_page s.size B) s.runs
      ok = runs_same wf.free_runs (free-shown s wf set)

      there : Keyed (λ r. r.start) p s.runs (starts_at p s.runs) → starts_at p s.runs ≡ n → Stretch (free_page s.size B) it
      there (inl (x, m, a, l)) e = let q : x ≡ it = run_path a (l ∙ e) in subst (Stretch (free_page s.size B)) q (ok.sound x m)
      there (inr (z, h)) e = absurd (omega arith)

  mark-read : (p c i : ℕ) → kind_at B p ≡ class c → i < chunks c →
      (mark_in B p (kind_at B p) i ≡ true) ↔ ((i < own c) ⊎ ((e : Block) × Mem e B × (offset e ≡ 4096 * p + chunk c * i)))
  unfolding mark_in
  mark-read p c i h l = rw (h, lt-ltb i (chunks c) l) (go (lt? i (own c)))
    where
      Here : Type 0
      Here = (e : Block) × Mem e B × (offset e ≡ 4096 * p + chunk c * i)

      go : (i < own c) ⊎ (own c ≤ i) → (ltb i (own c) || begins B (4096 * p + chunk c * i) ≡ true) ↔ ((i < own c) ⊎ Here)
      go (inl a) = (λ z. inl a, λ z. rw (lt-ltb i (own c) a))
      go (inr a) = (λ z. inr (begins-mem B (4096 * p + chunk c * i) (rw (le-ltb i (own c) a) at z)), back)
        where
          back : (i < own c) ⊎ Here → ltb i (own c) || begins B (4096 * p + chunk c * i) ≡ true
          back (inl z) = absurd (omega arith)
          back (inr (e, m, z)) = rw (le-ltb i (own c) a, ← z) (begins_at B e m)

  pub reads : Reads s.size B
  unfolding expected
  reads = record {
    class_page_lem = class-read;
    first-page = first_read;
    inner-page = inner-read;
    free_page_lem = free-read;
    free_run_lem = run-read;
    marks = mark-read;
  }
