-- What a plain state shows after a change of its page table.
use mathlib.Core.Path.{◌≡◌, refl, ap}
use mathlib.Core.Logic.{inl, inr}
use mathlib.Core.Bool.{Bool}
use mathlib.Core.List.{List, [], ◌∷◌}
use Prim.Native.Nat.{ℕ, ◌+◌, ◌-◌, ◌≤◌, ◌<◌}
use native.Mathlib.Omega.{arith}
use lib.Dec.{eqb}
use borrow.Author.Tests.{lt-ltb, le-ltb, eq-eqb}
use Rattle.base.specs.Tests.{pick}
use Rattle.base.specs.Lists.{Mem, keep}
use Rattle.base.proofs.Cases.{never}
use Rattle.base.proofs.Lists.{mem-keep}
use Rattle.model.specs.State.{idle, slab, edge, Run}
use Rattle.model.specs.WellFormed.{WellFormed}
use Rattle.model.proofs.Table.{is_idle_lem, in_table}
use Rattle.model.proofs.Lists.{open_is}
use Rattle.plain.specs.Table.{read_runs}
use Rattle.plain.specs.Plain.{Plain, entry_at, mark_of, page_of, page_at, listed, list_of, read_plain}
use Rattle.plain.proofs.Table.{Small}

-- ---- pages

pub page_in : (s : Plain) (b : List ℕ) (p : ℕ) → p < 12 → page_at s b p ≡ page_of (entry_at s p) (mark_of b p (entry_at s p).class)
unfolding page_at pick
page_in s b p h = rw (lt-ltb p 12 h)

pub page-past : (s : Plain) (b : List ℕ) (p : ℕ) → 12 ≤ p → page_at s b p ≡ edge
unfolding page_at pick
page-past s b p h = rw (le-ltb p 12 h)

-- an entry that stays shows what it did
pub page_same : (s t : Plain) (b : List ℕ) (p : ℕ) → entry_at t p ≡ entry_at s p → page_at t b p ≡ page_at s b p
unfolding page_at
page_same s t b p h = rw h

-- ---- class lists

pub keep_same : (q r : ℕ → Bool) (l : List ℕ) → ((x : ℕ) → Mem x l → q x ≡ r x) → keep q l ≡ keep r l
keep_same q r [] h = refl
keep_same q r (x ∷ l) h = rw (h x (inl refl), keep_same q r l (λ y m. h y (inr m)))

module _ (s : Plain) (b : List ℕ) (wf : WellFormed (read_plain s b)) where
  -- a listed page is a class page
  listed-slab : (p : ℕ) → Mem p (listed s.ready) → (m : ℕ → Bool) × (page_at s b p ≡ slab (entry_at s p).class m)
  unfolding list_of read_plain
  listed-slab p m =
      let c : ℕ = (entry_at s p).class in
      let (n, is, clear) = open_is c (page_at s b p) (wf.class-lists.holds c p (mem-keep (λ j. eqb (entry_at s j).class c) p (listed s.ready) m (eq-eqb c c refl))) in
      (n, is)

  -- where class pages keep their class, the lists stay
  pub lists_stay : (t : Plain) → t.ready ≡ s.ready → ((p c : ℕ) (m : ℕ → Bool) → page_at s b p ≡ slab c m → (entry_at t p).class ≡ (entry_at s p).class)
      → (c : ℕ) → list_of t c ≡ list_of s c
  unfolding list_of entry_at
  lists_stay t e h c =
      rw e
      (keep_same (λ p. eqb (entry_at t p).class c) (λ p. eqb (entry_at s p).class c) (listed s.ready)
      (λ p m. ap (λ (d : ℕ). eqb d c) (h p (entry_at s p).class (listed-slab p m).0 (listed-slab p m).1)))

  -- the runs end in the pool
  pub run_inside : (r : Run) → Mem r (read_runs s.runs) → r.start + r.len ≤ 12
  unfolding read_plain
  run_inside r m =
      let st = wf.free_runs.sound r m in
      let l : 1 ≤ r.len = st.some-page in
      let i : page_at s b (r.start + r.len - 1) ≡ idle = is_idle_lem (page_at s b (r.start + r.len - 1)) (st.all_free (r.start + r.len - 1) (omega arith) (omega arith)) in
      let h : r.start + r.len - 1 < 12 = in_table wf.table (r.start + r.len - 1) (λ e. never (cc)) in
      omega arith

  pub small-runs : Small s.runs
  small-runs r m = omega (arith, run_inside r m)
