-- The state made anew of a table of pages is well formed.
use mathlib.Core.Path.{◌≡◌, refl, sym, ap, ◌∙◌, subst}
use mathlib.Core.Logic.{◌⊎◌, inl, inr, ◌≢◌}
use mathlib.Core.Bool.{Bool, true, false, cond, not}
use mathlib.Core.List.{List}
use Prim.Native.Nat.{ℕ, zero, suc, ◌+◌, ◌-◌, ◌≤◌, ◌<◌}
use native.Mathlib.Omega.{arith}
use borrow.Author.Tests.{lt-ltb, ltb-true, not-true, not-false}
use Rattle.base.specs.Lists.{Mem, keep}
use Rattle.base.specs.Search.{least}
use Rattle.base.proofs.Cases.{clash, never, eq?, lt?}
use Rattle.base.proofs.Lists.{keep-mem, mem-keep}
use Rattle.base.proofs.Search.{least_spec}
use Rattle.model.specs.State.{Page, Tally, is_idle, is_open}
use Rattle.model.specs.WellFormed.{TableOk, Stretch, RunsOk, ListsOk, TallyOk, WellFormed}
use Rattle.model.specs.Expected.{after_free, stretch_at}
use Rattle.model.proofs.Lists.{open_is}
use Rattle.model.proofs.Table.{in_table}
use Rattle.rules.proofs.Well.{run_at, run_on, on_run, runs-once}
use Rattle.mending.specs.Remade.{up_from, starts_run, runs_anew, list_anew, remade}
use Rattle.mending.specs.Laws.{MadeAnew}
use Rattle.mending.proofs.Ascending.{mem_up, up_ascends, keep_ascends, ascends_once, runs_ascend}

-- ---- the free runs of pages that g tells, none past P
module _ (P : ℕ) (g : ℕ → Bool) (past : (p : ℕ) → P ≤ p → g p ≡ false) where
  -- how far the free pages reach from p on
  abbrev reach : ℕ → ℕ
  reach p = least (λ j. not (g (p + j))) P

  -- a stretch starts where no free page borders
  starts : (p : ℕ) → 0 < stretch_at P g p → (after_free g p ≡ false) × (stretch_at P g p ≡ reach p)
  unfolding stretch_at
  starts p h = go (after_free g p) refl h
    where
      go : (t : Bool) → after_free g p ≡ t → 0 < cond t 0 (reach p) → (after_free g p ≡ false) × (cond (after_free g p) 0 (reach p) ≡ reach p)
      go true e l = absurd (omega arith)
      go false e l = (e, rw e)

  pub starts_at_lem : (p : ℕ) → g p ≡ true → after_free g p ≡ false → 0 < stretch_at P g p
  unfolding stretch_at
  starts_at_lem p e n = rw n (go (lt? 0 (reach p)))
    where
      inside : p < P
      inside = side (lt? p P)
        where
          side : (p < P) ⊎ (P ≤ p) → p < P
          side (inl l) = l
          side (inr l) = absurd (clash e (past p l))

      go : (0 < reach p) ⊎ (reach p ≤ 0) → 0 < reach p
      go (inl l) = l
      go (inr l) =
          let z : p + reach p ≡ p = omega arith in
          absurd (clash e (ap g (sym z) ∙ not-true _ ((least_spec (λ j. not (g (p + j))) P).passes (omega (arith, inside)))))

  pub stretch : (p : ℕ) → 0 < stretch_at P g p → Stretch g (run_at (stretch_at P g) p)
  stretch p h =
      let (n, e) = starts p h in
      let L = least_spec (λ j. not (g (p + j))) P in
      record {
        some-page = h;
        all_free = λ j a b.
            let z : p + (j - p) ≡ j = omega arith in
            ap g (sym z) ∙ not-false _ (L.before (j - p) (omega arith));
        low_end = λ j a. unfold after_free in subst (λ (q : ℕ). after_free g q ≡ false) (sym a) n;
        high_end = λ j a. high j (a ∙ ap (λ (k : ℕ). p + k) e) (lt? (reach p) P);
      }
    where
      high : (j : ℕ) → j ≡ p + reach p → (reach p < P) ⊎ (P ≤ reach p) → g j ≡ false
      high j a (inl l) = ap g a ∙ not-true _ ((least_spec (λ j. not (g (p + j))) P).passes l)
      high j a (inr l) = past j (omega arith)

  -- each free page lies in the stretch that starts at or before it
  covered : (j : ℕ) → g j ≡ true → (p : ℕ) × (0 < stretch_at P g p) × (p ≤ j) × (j < p + stretch_at P g p)
  unfolding after_free
  covered zero e = let h = starts_at_lem zero e refl in (zero, h, omega arith, omega arith)
  covered (suc j) e = go (g j) refl (covered j)
    where
      go : (t : Bool) → g j ≡ t → (g j ≡ true → (p : ℕ) × (0 < stretch_at P g p) × (p ≤ j) × (j < p + stretch_at P g p)) →
          (p : ℕ) × (0 < stretch_at P g p) × (p ≤ suc j) × (suc j < p + stretch_at P g p)
      go true d ih = side (ih d)
        where
          side : (p : ℕ) × (0 < stretch_at P g p) × (p ≤ j) × (j < p + stretch_at P g p) →
              (p : ℕ) × (0 < stretch_at P g p) × (p ≤ suc j) × (suc j < p + stretch_at P g p)
          side (p, h, a, b) = on (eq? (suc j) (p + stretch_at P g p))
            where
              on : (suc j ≡ p + stretch_at P g p) ⊎ (suc j ≢ p + stretch_at P g p) →
                  (p : ℕ) × (0 < stretch_at P g p) × (p ≤ suc j) × (suc j < p + stretch_at P g p)
              on (inl z) = absurd (clash e ((stretch p h).high_end (suc j) z))
              on (inr z) = (p, h, omega arith, omega arith)
      go false d ih = let h = starts_at_lem (suc j) e d in (suc j, h, omega arith, omega arith)

  abbrev firsts : List ℕ
  firsts = keep (starts_run P g) (up_from 0 P)

  pub runs_ok : RunsOk g (runs_anew P g)
  unfolding runs_anew starts_run
  runs_ok = record {
    once = runs-once (stretch_at P g) firsts (ascends_once 0 firsts (keep_ascends (starts_run P g) 0 (up_from 0 P) (up_ascends 0 P)));
    sound = λ r m.
        let (a, b) = run_on (stretch_at P g) firsts r m in
        rw b (stretch r.start (ltb-true _ _ (keep-mem (starts_run P g) r.start (up_from 0 P) a).1));
    covers = λ j e.
        let (p, h, a, b) = covered j e in
        (run_at (stretch_at P g) p, on_run (stretch_at P g) firsts p (first p h), a, b);
  }
    where
      first : (p : ℕ) → 0 < stretch_at P g p → Mem p firsts
      first p h = mem-keep (starts_run P g) p (up_from 0 P) (mem_up P p (side (lt? p P))) (lt-ltb 0 (stretch_at P g p) h)
        where
          side : (p < P) ⊎ (P ≤ p) → p < P
          side (inl l) = l
          side (inr l) = absurd (clash ((stretch p h).all_free p (omega arith) (omega arith)) (past p l))

-- ---- the class lists
module _ (P : ℕ) (f : ℕ → Page) (T : TableOk P f) where
  pub lists_ok : ListsOk f (list_anew P f)
  unfolding list_anew
  lists_ok = record {
    once = λ c. ascends_once 0 (list_anew P f c) (keep_ascends (λ p. is_open c (f p)) 0 (up_from 0 P) (up_ascends 0 P));
    holds = λ c p m. (keep-mem (λ p. is_open c (f p)) p (up_from 0 P) m).1;
    all = λ c p e.
        let (m, was, _) = open_is c (f p) e in
        mem-keep (λ p. is_open c (f p)) p (up_from 0 P) (mem_up P p (in_table T p (λ z. never (cc)))) e;
  }

-- ---- the state
pub remade-well : (P : ℕ) (f : ℕ → Page) (tally : ℕ → Tally) → 1 ≤ P → TableOk P f → ((c : ℕ) → TallyOk c (tally c)) → WellFormed (remade P f tally)
unfolding remade
remade-well P f tally some T ts = record {
  some-page = some;
  table = T;
  free_runs = runs_ok P (λ j. is_idle (f j)) (λ p l. ap is_idle (T.past p l));
  class-lists = lists_ok P f T;
  tallies = ts;
}

pub made_anew : MadeAnew
unfolding remade runs_anew list_anew
made_anew P f tally some T ts = record {
  well = remade-well P f tally some T ts;
  runs_rise = runs_ascend (stretch_at P (λ j. is_idle (f j))) 0 (keep (starts_run P (λ j. is_idle (f j))) (up_from 0 P)) (keep_ascends (starts_run P (λ j. is_idle (f j))) 0 (up_from 0 P) (up_ascends 0 P));
  lists_rise = λ c. keep_ascends (λ p. is_open c (f p)) 0 (up_from 0 P) (up_ascends 0 P);
}
