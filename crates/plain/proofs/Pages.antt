-- Pages taken and released on a plain state: what it then shows is what the model's call leaves.
use mathlib.Core.Path.{◌≡◌, refl, sym, ap, ◌∙◌, fun_ext}
use mathlib.Core.Logic.{◌⊎◌, inl, inr, ◌≢◌}
use mathlib.Core.Bool.{Bool}
use mathlib.Core.Option.{some}
use mathlib.Core.List.{List}
use Prim.Native.Nat.{ℕ, ◌+◌, ◌≤◌, ◌<◌}
use native.Mathlib.Omega.{arith}
use lib.ListN.{length, get_or}
use borrow.Author.Tests.{lt-ltb, le-ltb, le-leb, lt-leb, eq-eqb, ne_eqb}
use Rattle.base.specs.Tests.{pick}
use Rattle.base.specs.Functions.{upd, fill}
use Rattle.base.proofs.Cases.{never, lt?, eq?, in?, Out}
use Rattle.base.proofs.Functions.{upd_same, upd_other, fill_in, fill_out}
use Rattle.model.specs.State.{idle, slab, taken, inside, Run}
use Rattle.model.specs.Runs.{fit, carve, end, ends_at, starts_at, join_runs}
use Rattle.model.specs.Calls.{alloc_run, release}
use Rattle.model.specs.WellFormed.{WellFormed}
use Rattle.model.proofs.Table.{not-idle}
use Rattle.model.proofs.Runs.{Keyed, keyed}
use Rattle.model.proofs.Occupy.{were_idle, in_size}
use Rattle.plain.specs.declared.PageEntry.{PageEntry}
use Rattle.plain.specs.Table.{vacant, read_runs, run_of, first_fit, run_at, carved_at, released}
use Rattle.plain.specs.Plain.{Plain, Shaped, free_entry, entry_at, mark_of, page_of, page_at, list_of, read_plain}
use Rattle.plain.specs.Pages.{taken_at, freed_at, run_taken, pages_freed}
use Rattle.plain.proofs.Loops.{get_d_remade}
use Rattle.plain.proofs.Table.{fit-read, carve-read, release-read, HasPlace}
use Rattle.plain.proofs.Shown.{page_in, page-past, page_same, lists_stay, run_inside, small-runs}
use Rattle.plain.proofs.Places.{has-place}

-- ---- entries

taken-first : (p k : ℕ) (e : PageEntry) (m : ℕ → Bool) → page_of (taken_at p k p e) m ≡ taken k
unfolding taken_at page_of pick
taken-first p k e m = rw (eq-eqb p p refl)

taken-inner : (p k j : ℕ) (e : PageEntry) (m : ℕ → Bool) → j ≢ p → p ≤ j → j < p + k → page_of (taken_at p k j e) m ≡ inside
unfolding taken_at page_of pick
taken-inner p k j e m d l u = rw (ne_eqb j p d, le-leb p j l, lt-ltb j (p + k) u)

taken_other : (p k j : ℕ) (e : PageEntry) → j ≢ p → Out p k j → taken_at p k j e ≡ e
unfolding taken_at pick
taken_other p k j e d (inl h) = rw (ne_eqb j p d, lt-leb p j h)
taken_other p k j e d (inr h) = rw (ne_eqb j p d, le-leb p j (omega arith), le-ltb j (p + k) h)

freed_in : (p k j : ℕ) (e : PageEntry) → p ≤ j → j < p + k → freed_at p k j e ≡ free_entry
unfolding freed_at pick
freed_in p k j e l u = rw (le-leb p j l, lt-ltb j (p + k) u)

freed_out : (p k j : ℕ) (e : PageEntry) → Out p k j → freed_at p k j e ≡ e
unfolding freed_at pick
freed_out p k j e (inl h) = rw (lt-leb p j h)
freed_out p k j e (inr h) = rw (le-leb p j (omega arith), le-ltb j (p + k) h)

free-shows : (m : ℕ → Bool) → page_of free_entry m ≡ idle
unfolding free_entry page_of pick
free-shows m = refl

-- ---- pages taken

module _ (s : Plain) (b : List ℕ) (sh : Shaped s b) (wf : WellFormed (read_plain s b)) (k : ℕ) (pos : 1 ≤ k) (i : ℕ) (is : i ≡ first_fit k s.runs) (here : i < 12) where
  abbrev r : Run
  r = run_of (get_or s.runs i vacant)

  abbrev p : ℕ
  p = (get_or s.runs i vacant).first

  pub found : fit k (read_runs s.runs) ≡ some r
  unfolding run_at pick
  found = fit-read k s.runs pos ∙ rw (← is, lt-ltb i (length s.runs) (omega (arith, sh.runs)))

  start_is : r.start ≡ p
  unfolding run_of
  start_is = refl

  idle-before : (j : ℕ) → p ≤ j → j < p + k → page_at s b j ≡ idle
  unfolding read_plain run_of
  idle-before j l u = were_idle wf.table wf.free_runs k pos r found j l u

  pub inside-pool : p + k ≤ 12
  unfolding read_plain run_of
  inside-pool = in_size wf.table wf.free_runs k pos r found

  abbrev t : Plain
  t = run_taken s k i

  entry-is : (j : ℕ) → j < 12 → entry_at t j ≡ taken_at p k j (entry_at s j)
  unfolding entry_at run_taken
  entry-is j h = get_d_remade (taken_at p k) s.pages j free_entry (omega (arith, sh.pages))

  entry_same : (j : ℕ) → j < 12 → Out p k j → entry_at t j ≡ entry_at s j
  entry_same j h o = entry-is j h ∙ taken_other p k j (entry_at s j) (λ e. side e o) o
    where
      side : j ≡ p → Out p k j → ⊥
      side e (inl l) = omega arith
      side e (inr l) = omega arith

  page-is : (j : ℕ) → page_at t b j ≡ upd (fill (page_at s b) p k inside) p (taken k) j
  page-is j = go (lt? j 12) (eq? j p) (in? p k j)
    where
      go : (j < 12) ⊎ (12 ≤ j) → (j ≡ p) ⊎ (j ≢ p) → ((p ≤ j) × (j < p + k)) ⊎ Out p k j → page_at t b j ≡ upd (fill (page_at s b) p k inside) p (taken k) j
      go (inr h) d z =
          page-past t b j h
          ∙ sym (upd_other (fill (page_at s b) p k inside) p (taken k) j (λ e. let q : p + k ≤ 12 = inside-pool in omega arith)
          ∙ fill_out (page_at s b) p k inside j (inr (omega (arith, inside-pool))) ∙ page-past s b j h)
      go (inl h) (inl e) z =
          page_in t b j h ∙ ap (λ (x : PageEntry). page_of x (mark_of b j (entry_at t j).class)) (entry-is j h)
          ∙ rw e (taken-first p k (entry_at s p) _ ∙ sym (upd_same (fill (page_at s b) p k inside) p (taken k)))
      go (inl h) (inr d) (inl (l, u)) =
          page_in t b j h ∙ ap (λ (x : PageEntry). page_of x (mark_of b j (entry_at t j).class)) (entry-is j h)
          ∙ taken-inner p k j (entry_at s j) _ d l u
          ∙ sym (upd_other (fill (page_at s b) p k inside) p (taken k) j d ∙ fill_in (page_at s b) p k inside j l u)
      go (inl h) (inr d) (inr o) =
          page_same s t b j (entry_same j h o)
          ∙ sym (upd_other (fill (page_at s b) p k inside) p (taken k) j d ∙ fill_out (page_at s b) p k inside j o)

  -- class pages are not among them
  class-kept : (j c : ℕ) (m : ℕ → Bool) → page_at s b j ≡ slab c m → (entry_at t j).class ≡ (entry_at s j).class
  class-kept j c m e = go (lt? j 12) (in? p k j)
    where
      go : (j < 12) ⊎ (12 ≤ j) → ((p ≤ j) × (j < p + k)) ⊎ Out p k j → (entry_at t j).class ≡ (entry_at s j).class
      go (inr h) z = absurd (never (cc (page-past s b j h)))
      go (inl h) (inl (l, u)) = absurd (never (cc (idle-before j l u)))
      go (inl h) (inr o) = ap (λ (x : PageEntry). x.class) (entry_same j h o)

  runs_are : read_runs (carved_at i k s.runs) ≡ carve k (read_runs s.runs)
  runs_are = rw is (carve-read k s.runs pos (small-runs s b wf))

  lists_are : list_of t ≡ list_of s
  lists_are = fun_ext (λ c. lists_stay s b wf t ready-is class-kept c)
    where
      ready-is : t.ready ≡ s.ready
      ready-is = unfold run_taken in refl

  -- the plain state then shows what the model leaves
  pub run_taken_lem : read_plain (run_taken s k i) b ≡ (alloc_run (read_plain s b) k (fit k (read_runs s.runs))).after
  unfolding read_plain alloc_run run_taken run_of
  run_taken_lem =
      rw found
      (λ x. record {
        size = 12;
        page = fun_ext page-is x;
        runs = runs_are x;
        lists = lists_are x;
        tally = λ c. (read_plain s b).tally c;
      })

-- ---- pages released

module _ (s : Plain) (b : List ℕ) (sh : Shaped s b) (wf : WellFormed (read_plain s b)) (p k : ℕ) (pos : 1 ≤ k) (fits : p + k ≤ 12)
    (busy : (j : ℕ) → p ≤ j → j < p + k → page_at s b j ≢ idle) where
  abbrev u : Plain
  u = pages_freed s p k

  freed-is : (j : ℕ) → j < 12 → entry_at u j ≡ freed_at p k j (entry_at s j)
  unfolding entry_at pages_freed
  freed-is j h = get_d_remade (freed_at p k) s.pages j free_entry (omega (arith, sh.pages))

  pub freed-entry : (j : ℕ) → j < 12 → p ≤ j → j < p + k → entry_at u j ≡ free_entry
  freed-entry j h l v = freed-is j h ∙ freed_in p k j (entry_at s j) l v

  pub freed_same : (j : ℕ) → j < 12 → Out p k j → entry_at u j ≡ entry_at s j
  freed_same j h o = freed-is j h ∙ freed_out p k j (entry_at s j) o

  pub freed-page : (j : ℕ) → page_at u b j ≡ fill (page_at s b) p k idle j
  freed-page j = go (lt? j 12) (in? p k j)
    where
      go : (j < 12) ⊎ (12 ≤ j) → ((p ≤ j) × (j < p + k)) ⊎ Out p k j → page_at u b j ≡ fill (page_at s b) p k idle j
      go (inr h) z = page-past u b j h ∙ sym (fill_out (page_at s b) p k idle j (inr (omega arith)) ∙ page-past s b j h)
      go (inl h) (inl (l, v)) =
          page_in u b j h ∙ ap (λ (x : PageEntry). page_of x (mark_of b j (entry_at u j).class)) (freed-is j h ∙ freed_in p k j (entry_at s j) l v)
          ∙ free-shows _ ∙ sym (fill_in (page_at s b) p k idle j l v)
      go (inl h) (inr o) = page_same s u b j (freed_same j h o) ∙ sym (fill_out (page_at s b) p k idle j o)

  low : ends_at p (read_runs s.runs) ≤ p
  unfolding Keyed
  low = go (keyed end p (read_runs s.runs))
    where
      go : Keyed end p (read_runs s.runs) (ends_at p (read_runs s.runs)) → ends_at p (read_runs s.runs) ≤ p
      go (inl (x, m, e, l)) = omega arith
      go (inr (z, n)) = omega arith

  high : p + k + starts_at (p + k) (read_runs s.runs) ≤ 12
  unfolding Keyed
  high = go (keyed (λ r. r.start) (p + k) (read_runs s.runs))
    where
      go : Keyed (λ r. r.start) (p + k) (read_runs s.runs) (starts_at (p + k) (read_runs s.runs)) → p + k + starts_at (p + k) (read_runs s.runs) ≤ 12
      go (inl (x, m, e, l)) = omega (arith, run_inside s b wf x m)
      go (inr (z, n)) = omega arith

  place : HasPlace s.runs
  unfolding read_plain
  place = has-place s.runs wf.free_runs sh.runs (run_inside s b wf) p (omega arith) (not-idle (page_at s b p) (busy p (omega arith) (omega arith)))

  pub freed-runs : read_runs (released p k s.runs) ≡ join_runs p k (read_runs s.runs)
  freed-runs = release-read p k s.runs pos place low (omega (arith, high))

module _ (s : Plain) (b : List ℕ) (sh : Shaped s b) (wf : WellFormed (read_plain s b)) (p k : ℕ) (pos : 1 ≤ k) (fits : p + k ≤ 12)
    (busy : (j : ℕ) → p ≤ j → j < p + k → page_at s b j ≢ idle) (no-class : (j c : ℕ) (m : ℕ → Bool) → p ≤ j → j < p + k → page_at s b j ≢ slab c m) where
  abbrev v : Plain
  v = pages_freed s p k

  -- class pages are not among them
  freed-class : (j c : ℕ) (m : ℕ → Bool) → page_at s b j ≡ slab c m → (entry_at v j).class ≡ (entry_at s j).class
  freed-class j c m e = go (lt? j 12) (in? p k j)
    where
      go : (j < 12) ⊎ (12 ≤ j) → ((p ≤ j) × (j < p + k)) ⊎ Out p k j → (entry_at v j).class ≡ (entry_at s j).class
      go (inr h) z = absurd (never (cc (page-past s b j h)))
      go (inl h) (inl (l, w)) = absurd (no-class j c m l w e)
      go (inl h) (inr o) = ap (λ (x : PageEntry). x.class) (freed_same s b sh wf p k pos fits busy j h o)

  freed-lists : list_of v ≡ list_of s
  freed-lists = fun_ext (λ c. lists_stay s b wf v ready-is freed-class c)
    where
      ready-is : v.ready ≡ s.ready
      ready-is = unfold pages_freed in refl

  -- the plain state then shows what the model leaves
  pub pages_freed_lem : read_plain (pages_freed s p k) b ≡ release (read_plain s b) p k
  unfolding read_plain release pages_freed
  pages_freed_lem =
      λ x. record {
        size = 12;
        page = fun_ext (freed-page s b sh wf p k pos fits busy) x;
        runs = freed-runs s b sh wf p k pos fits busy x;
        lists = freed-lists x;
        tally = λ c. (read_plain s b).tally c;
      }
