-- Rules 2 and 3: the tests of the table of free runs hold exactly when it holds each maximal stretch of free pages once.
use mathlib.Core.Path.{◌≡◌, refl, sym, ap, ◌∙◌}
use mathlib.Core.Logic.{◌⊎◌, inl, inr, ◌≢◌}
use mathlib.Core.Bool.{Bool, true, false}
use mathlib.Core.List.{List, [], ◌∷◌}
use Prim.Native.Nat.{ℕ, suc, ◌+◌, ◌-◌, ◌≤◌, ◌<◌}
use native.Mathlib.Omega.{arith}
use lib.Dec.{eqb, leb, ltb}
use borrow.Author.Tests.{lt-ltb, le-leb, eq-eqb, ne_eqb, leb-true, ltb-true, eqb-true}
use Rattle.base.specs.Tests.{pick}
use Rattle.base.specs.Count.{bit}
use Rattle.base.specs.Lists.{Mem, NoDup}
use Rattle.base.proofs.Tests.{both_true, not_and_true}
use Rattle.base.proofs.AllBelow.{pick-both}
use Rattle.base.proofs.Cases.{clash, lt?, eq?, decided}
use Rattle.base.proofs.Lists.{mem_cast}
use Rattle.model.specs.State.{Run}
use Rattle.model.specs.WellFormed.{Stretch, RunsOk}
use Rattle.model.proofs.Runs.{same_run}
use Rattle.plain.specs.declared.Extent.{Extent}
use Rattle.plain.specs.declared.PageEntry.{PageEntry}
use Rattle.plain.specs.Table.{is_vacant, run_of, read_runs}
use Rattle.plain.proofs.Table.{read_none, read-vacant, read-run}
use Rattle.plain_rules.specs.Counts.{free_page}
use Rattle.plain_rules.specs.Rules.{how_many, free_before, apart, stretch_ok, extent_ok, holds_page, runs_ok}
use Rattle.plain_rules.proofs.Many.{many_none, many_tail, many_head, many_skip, mem_many, many_mem}

-- ---- the runs of a table

read_mem : (r : Run) (t : List Extent) → Mem r (read_runs t) → (e : Extent) × Mem e t × (e.len ≢ 0) × (run_of e ≡ r)
read_mem r [] m = absurd (rw read_none at m)
read_mem r (e ∷ t) m = go (eq? e.len 0) (λ n. read_mem r t n)
  where
    go : (e.len ≡ 0) ⊎ (e.len ≢ 0) → (Mem r (read_runs t) → (x : Extent) × Mem x t × (x.len ≢ 0) × (run_of x ≡ r)) → (x : Extent) × Mem x (e ∷ t) × (x.len ≢ 0) × (run_of x ≡ r)
    go (inl v) ih =
        let n : Mem r (read_runs t) = rw (read-vacant e t v) at m in
        let (x, h, l, d) = ih n in
        (x, inr h, l, d)
    go (inr v) ih =
        let n : Mem r (run_of e ∷ read_runs t) = rw (read-run e t v) at m in
        side n
      where
        side : (r ≡ run_of e) ⊎ Mem r (read_runs t) → (x : Extent) × Mem x (e ∷ t) × (x.len ≢ 0) × (run_of x ≡ r)
        side (inl d) = (e, inl refl, v, sym d)
        side (inr n) = let (x, h, l, d) = ih n in (x, inr h, l, d)

mem-read : (e : Extent) (t : List Extent) → Mem e t → e.len ≢ 0 → Mem (run_of e) (read_runs t)
mem-read e (x ∷ t) m v = go (eq? x.len 0) m (λ n. mem-read e t n v)
  where
    go : (x.len ≡ 0) ⊎ (x.len ≢ 0) → (e ≡ x) ⊎ Mem e t → (Mem e t → Mem (run_of e) (read_runs t)) → Mem (run_of e) (read_runs (x ∷ t))
    go (inl u) (inl d) ih = absurd (v (ap (λ (y : Extent). y.len) d ∙ u))
    go (inl u) (inr n) ih = rw (read-vacant x t u) (ih n)
    go (inr u) (inl d) ih = rw (read-run x t u) (inl (ap run_of d))
    go (inr u) (inr n) ih = rw (read-run x t u) (inr (ih n))
mem-read e [] m v = elim m [ ]

tail-once : (e : Extent) (t : List Extent) → NoDup (read_runs (e ∷ t)) → NoDup (read_runs t)
tail-once e t d = side (eq? e.len 0)
  where
    side : (e.len ≡ 0) ⊎ (e.len ≢ 0) → NoDup (read_runs t)
    side (inl v) = rw (read-vacant e t v) at d
    side (inr v) = let k : NoDup (run_of e ∷ read_runs t) = rw (read-run e t v) at d in k.1

-- ---- an entry that holds a page

holds_in : (p : ℕ) (e : Extent) → holds_page p e ≡ true → (e.first ≤ p) × (p < e.first + e.len)
unfolding holds_page
holds_in p e h = let x = both_true (leb e.first p) (ltb p (e.first + e.len)) h in (leb-true e.first p x.0, ltb-true p (e.first + e.len) x.1)

in_holds : (p : ℕ) (e : Extent) → e.first ≤ p → p < e.first + e.len → holds_page p e ≡ true
unfolding holds_page
in_holds p e l u = pick-both _ _ (le-leb e.first p l) (lt-ltb p (e.first + e.len) u)

-- ---- the tests say what runs are

module _ (t : List PageEntry) (g : ℕ → Bool) (same : (p : ℕ) → free_page t p ≡ g p) (past : (p : ℕ) → 12 ≤ p → g p ≡ false) (runs : List Extent) where
  covered : (p : ℕ) → runs_ok t runs p ≡ true → how_many (holds_page p) runs ≡ bit (g p)
  unfolding runs_ok
  covered p h = eqb-true (how_many (holds_page p) runs) (bit (free_page t p)) h ∙ ap bit (same p)

  -- no free page borders an entry
  bordered : (p q : ℕ) → apart t p q ≡ true → ((j : ℕ) → suc j ≡ p → g j ≡ false) × (g q ≡ false)
  unfolding apart free_before
  bordered p q h =
      let x = not_and_true (free_before t p) (pick (free_page t q) false true) h in
      let y = not_and_true (free_page t q) true x.1 in
      (low x.0, sym (same q) ∙ y.0)
    where
      low : free_before t p ≡ false → (j : ℕ) → suc j ≡ p → g j ≡ false
      low f j e =
          let d : p - 1 ≡ j = omega arith in
          let k : free_page t (p - 1) ≡ false = unfold free_before pick in rw (ne_eqb p 0 (omega arith)) at f in
          sym (same j) ∙ ap (free_page t) (sym d) ∙ k

  module _ (each : (e : Extent) → Mem e runs → extent_ok t e ≡ true) (all : (p : ℕ) → p < 12 → runs_ok t runs p ≡ true) where
    fits : (e : Extent) → Mem e runs → e.len ≢ 0 → (e.first + e.len ≤ 12) × (apart t e.first (e.first + e.len) ≡ true)
    unfolding extent_ok stretch_ok is_vacant pick
    fits e m v =
        let h : pick (leb (e.first + e.len) 12) (apart t e.first (e.first + e.len)) false ≡ true = rw (ne_eqb e.len 0 v) at (each e m) in
        let x = both_true (leb (e.first + e.len) 12) (apart t e.first (e.first + e.len)) h in
        (leb-true (e.first + e.len) 12 x.0, x.1)

    free_in_lem : (e : Extent) → Mem e runs → (j : ℕ) → e.first ≤ j → j < e.first + e.len → g j ≡ true
    free_in_lem e m j l u = go (g j) refl
      where
        held : 1 ≤ how_many (holds_page j) runs
        held = mem_many (holds_page j) e runs m (in_holds j e l u)

        low : j < 12
        low = omega (arith, (fits e m (omega arith)).0)

        go : (x : Bool) → g j ≡ x → g j ≡ true
        go true z = z
        go false z = let c : how_many (holds_page j) runs ≡ bit false = covered j (all j low) ∙ ap bit z in absurd (omega (arith, held))

    few : (p : ℕ) → p < 12 → how_many (holds_page p) runs ≤ 1
    few p l = rw (covered p (all p l)) (small (g p))
      where
        small : (x : Bool) → bit x ≤ 1
        small true = omega arith
        small false = omega arith

    once : (u : List Extent) → ((e : Extent) → Mem e u → Mem e runs) → ((p : ℕ) → p < 12 → how_many (holds_page p) u ≤ 1) → NoDup (read_runs u)
    once [] in-runs le = rw read_none tt
    once (e ∷ u) in-runs le = go (eq? e.len 0) (once u (λ x m. in-runs x (inr m)) (λ p l. omega (arith, le p l, many_tail (holds_page p) e u)))
      where
        apart : e.len ≢ 0 → ¬ Mem (run_of e) (read_runs u)
        apart v m =
            let (x, h, w, d) = read_mem (run_of e) u m in
            twice x h (unfold run_of in ap (λ (r : Run). r.start) d) (unfold run_of in ap (λ (r : Run). r.len) d)
          where
            twice : (x : Extent) → Mem x u → x.first ≡ e.first → x.len ≡ e.len → ⊥
            twice x h a b =
                let one : holds_page e.first e ≡ true = in_holds e.first e (omega arith) (omega arith) in
                let two : 1 ≤ how_many (holds_page e.first) u = mem_many (holds_page e.first) x u h (in_holds e.first x (omega arith) (omega arith)) in
                omega (arith, many_head (holds_page e.first) e u one, le e.first (omega (arith, (fits e (in-runs e (inl refl)) v).0)))

        go : (e.len ≡ 0) ⊎ (e.len ≢ 0) → NoDup (read_runs u) → NoDup (read_runs (e ∷ u))
        go (inl v) rest = rw (read-vacant e u v) rest
        go (inr v) rest = rw (read-run e u v) (apart v, rest)

    pub runs_there : RunsOk g (read_runs runs)
    runs_there = record {
      once = once runs (λ e m. m) few;
      sound = λ r m. sound r (read_mem r runs m);
      covers = λ j h. covers j h;
    }
      where
        sound : (r : Run) → (e : Extent) × Mem e runs × (e.len ≢ 0) × (run_of e ≡ r) → Stretch g r
        sound r (e, m, v, d) = rw (← d) (unfold run_of in record {
          some-page = omega arith;
          all_free = free_in_lem e m;
          low_end = (bordered e.first (e.first + e.len) (fits e m v).1).0;
          high_end = λ j z. ap g z ∙ (bordered e.first (e.first + e.len) (fits e m v).1).1;
        })

        covers : (j : ℕ) → g j ≡ true → (r : Run) × Mem r (read_runs runs) × (r.start ≤ j) × (j < r.start + r.len)
        covers j h = go (lt? j 12)
          where
            found : j < 12 → (r : Run) × Mem r (read_runs runs) × (r.start ≤ j) × (j < r.start + r.len)
            found l =
                let one : how_many (holds_page j) runs ≡ bit true = covered j (all j l) ∙ ap bit h in
                let (e, m, z) = many_mem (holds_page j) runs (omega arith) in
                at e m (holds_in j e z)
              where
                at : (e : Extent) → Mem e runs → (e.first ≤ j) × (j < e.first + e.len) → (r : Run) × Mem r (read_runs runs) × (r.start ≤ j) × (j < r.start + r.len)
                at e m (a, b) = (run_of e, mem-read e runs m (omega arith), unfold run_of in a, unfold run_of in b)

            go : (j < 12) ⊎ (12 ≤ j) → (r : Run) × Mem r (read_runs runs) × (r.start ≤ j) × (j < r.start + r.len)
            go (inl l) = found l
            go (inr l) = absurd (clash h (past j l))

  -- ---- and runs pass the tests

  module _ (R : RunsOk g (read_runs runs)) where
    stretch : (e : Extent) → Mem e runs → e.len ≢ 0 → Stretch g (run_of e)
    stretch e m v = R.sound (run_of e) (mem-read e runs m v)

    ends : (e : Extent) → Mem e runs → e.len ≢ 0 → e.first + e.len ≤ 12
    ends e m v = go (lt? (e.first + e.len - 1) 12)
      where
        last : g (e.first + e.len - 1) ≡ true
        last = unfold run_of in (stretch e m v).all_free (e.first + e.len - 1) (omega arith) (omega arith)

        go : (e.first + e.len - 1 < 12) ⊎ (12 ≤ e.first + e.len - 1) → e.first + e.len ≤ 12
        go (inl l) = omega arith
        go (inr l) = absurd (clash last (past (e.first + e.len - 1) l))

    no-border : (e : Extent) → Mem e runs → e.len ≢ 0 → apart t e.first (e.first + e.len) ≡ true
    unfolding apart free_before pick
    no-border e m v = go (eq? e.first 0)
      where
        high : free_page t (e.first + e.len) ≡ false
        high = same (e.first + e.len) ∙ (unfold run_of in (stretch e m v).high_end (e.first + e.len) refl)

        low : e.first ≢ 0 → free_page t (e.first - 1) ≡ false
        low n = same (e.first - 1) ∙ (unfold run_of in (stretch e m v).low_end (e.first - 1) (omega arith))

        go : (e.first ≡ 0) ⊎ (e.first ≢ 0) → pick (pick (eqb e.first 0) false (free_page t (e.first - 1))) false (pick (free_page t (e.first + e.len)) false true) ≡ true
        go (inl z) = rw (eq-eqb e.first 0 z, high)
        go (inr n) = rw (ne_eqb e.first 0 n, low n, high)

    pub extents_back : (e : Extent) → Mem e runs → extent_ok t e ≡ true
    unfolding extent_ok stretch_ok is_vacant pick
    extents_back e m = go (eq? e.len 0)
      where
        go : (e.len ≡ 0) ⊎ (e.len ≢ 0) → pick (eqb e.len 0) true (pick (leb (e.first + e.len) 12) (apart t e.first (e.first + e.len)) false) ≡ true
        go (inl v) = rw (eq-eqb e.len 0 v)
        go (inr v) = rw (ne_eqb e.len 0 v, le-leb (e.first + e.len) 12 (ends e m v), no-border e m v)

    -- runs that hold the same page are the same
    one_holds : (p : ℕ) (u : List Extent) → ((e : Extent) → Mem e u → Mem e runs) → NoDup (read_runs u) → how_many (holds_page p) u ≤ 1
    one_holds p [] in-runs d = unfold how_many in omega arith
    one_holds p (e ∷ u) in-runs d = go (holds_page p e) refl (eq? e.len 0) (one_holds p u (λ x m. in-runs x (inr m)) (tail-once e u d))
      where
        none_else : holds_page p e ≡ true → e.len ≢ 0 → (x : Extent) → Mem x u → holds_page p x ≡ false
        none_else h v x m = decided (holds_page p x) (λ z.
            let (a, b) = holds_in p e h in
            let (k, l) = holds_in p x z in
            again (omega arith) (same_run (stretch e (in-runs e (inl refl)) v) (stretch x (in-runs x (inr m)) (omega arith)) p (unfold run_of in a) (unfold run_of in b) (unfold run_of in k) (unfold run_of in l)))
          where
            again : x.len ≢ 0 → run_of e ≡ run_of x → ⊥
            again w q = let k : NoDup (run_of e ∷ read_runs u) = rw (read-run e u v) at d in k.0 (mem_cast (read_runs u) q (mem-read x u m w))

        go : (b : Bool) → holds_page p e ≡ b → (e.len ≡ 0) ⊎ (e.len ≢ 0) → how_many (holds_page p) u ≤ 1 → how_many (holds_page p) (e ∷ u) ≤ 1
        go false h z rest = omega (arith, many_skip (holds_page p) e u h)
        go true h (inl v) rest = absurd (omega (arith, holds_in p e h))
        go true h (inr v) rest = omega (arith, many_head (holds_page p) e u h, many_none (holds_page p) u (none_else h v))

    pub runs-back : (p : ℕ) → runs_ok t runs p ≡ true
    unfolding runs_ok
    runs-back p = eq-eqb (how_many (holds_page p) runs) (bit (free_page t p)) (go (g p) refl ∙ ap bit (sym (same p)))
      where
        go : (b : Bool) → g p ≡ b → how_many (holds_page p) runs ≡ bit (g p)
        go true z =
            let (r, m, a, b) = R.covers p z in
            let (e, h, v, d) = read_mem r runs m in
            let k : 1 ≤ how_many (holds_page p) runs = mem_many (holds_page p) e runs h (at e r d a b) in
            rw z (omega (arith, one_holds p runs (λ x n. n) R.once))
          where
            at : (e : Extent) (r : Run) → run_of e ≡ r → r.start ≤ p → p < r.start + r.len → holds_page p e ≡ true
            at e r d a b =
                let f : e.first ≡ r.start = unfold run_of in ap (λ (x : Run). x.start) d in
                let l : e.len ≡ r.len = unfold run_of in ap (λ (x : Run). x.len) d in
                in_holds p e (omega arith) (omega arith)
        go false z = rw z (many_none (holds_page p) runs none)
          where
            none : (e : Extent) → Mem e runs → holds_page p e ≡ false
            none e m = decided (holds_page p e) (λ h. let (a, b) = holds_in p e h in clash (free_at_lem e m (omega arith) a b) z)
              where
                free_at_lem : (e : Extent) → Mem e runs → e.len ≢ 0 → e.first ≤ p → p < e.first + e.len → g p ≡ true
                free_at_lem e m v a b = unfold run_of in (stretch e m v).all_free p a b
