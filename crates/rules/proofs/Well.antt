-- Fields that pass rules 2 to 5 show a well-formed state.
use mathlib.Core.Path.{◌≡◌, refl, sym, ap, ◌∙◌}
use mathlib.Core.Logic.{◌⊎◌, inl, inr}
use mathlib.Core.Bool.{true}
use mathlib.Core.List.{List, [], ◌∷◌}
use Prim.Native.Nat.{ℕ, zero, suc, ◌+◌, ◌≤◌, ◌<◌}
use native.Mathlib.Omega.{arith}
use borrow.Author.Tests.{lt-ltb, le-ltb}
use Rattle.base.specs.Lists.{Mem, NoDup}
use Rattle.base.proofs.Cases.{lt?, never, decided}
use Rattle.base.proofs.AllBelow.{pick_yes, pick_no}
use Rattle.records.specs.Layout.{no_page}
use Rattle.model.specs.State.{taken, inside, edge, Run, most, is_idle, is_open}
use Rattle.model.specs.WellFormed.{PageOk, TableOk, Stretch, RunsOk, ListsOk, TallyOk, WellFormed}
use Rattle.rules.specs.Fields.{Fields, kind, class, run, page_of, page_at}
use Rattle.rules.specs.Read.{open_at, heads_of, list_of, with_lengths, tally_of, read_fields}
use Rattle.rules.specs.Rules.{rule3, rule4, rule5}
use Rattle.rules.specs.Plain.{LiesIn, Shape, Head, Open}
use Rattle.rules.specs.Agree.{Holds, Bounds}
use Rattle.rules.proofs.Pages.{inside-kind, taken-kind, edge-kind, page_in, page-past, page-kind, page-idle, there, idle_there, open_says, says_open}
use Rattle.rules.proofs.Shape.{shape-says, free_run_lem}
use Rattle.rules.proofs.Rule2.{rule2-shape}
use Rattle.rules.proofs.Rules.{heads_listed, class-listed, rule5-says}

-- ---- runs as pages with their lengths
module _ (len : ℕ → ℕ) where
  abbrev pub run_at : ℕ → Run
  run_at p = record { start = p; len = len p }

  pub run_on : (ps : List ℕ) (r : Run) → Mem r (with_lengths len ps) → Mem r.start ps × (r ≡ run_at r.start)
  run_on (p ∷ ps) r (inl e) = (inl (ap (λ (x : Run). x.start) e), rw e)
  run_on (p ∷ ps) r (inr m) = let x = run_on ps r m in (inr x.0, x.1)
  run_on [] r x' = elim x' [ ]

  pub on_run : (ps : List ℕ) (p : ℕ) → Mem p ps → Mem (run_at p) (with_lengths len ps)
  on_run (q ∷ ps) p (inl e) = inl (ap run_at e)
  on_run (q ∷ ps) p (inr m) = inr (on_run ps p m)
  on_run [] p x' = elim x' [ ]

  pub runs-once : (ps : List ℕ) → NoDup ps → NoDup (with_lengths len ps)
  runs-once [] d = tt
  runs-once (p ∷ ps) d = (λ m. d.0 (run_on ps (run_at p) m).0, runs-once ps d.1)

module _ (v : Fields) (n : ℕ) (B : Bounds v n) (R : Shape v n) where
  -- ---- the table of pages
  page_ok : rule5 v n ≡ true → (p : ℕ) → PageOk (page_at v n p)
  page_ok five p = go (lt? p n)
    where
      ok : (k : ℕ) → p < n → kind v p ≡ k → PageOk (page_of k (class v p) (run v p) (v.mark p))
      ok zero h e = tt
      ok (suc zero) h e = tt
      ok (suc (suc zero)) h e = record {
        in_range = (R.kind2 p h e).in_range;
        own-set = (R.kind2 p h e).own-set;
        past_clear = B.marks p h e;
        in_use = rule5-says v n five p h e;
      }
      ok (suc (suc (suc zero))) h e = (R.kind3 p h e).fits.some-page
      ok (suc (suc (suc (suc zero)))) h e = tt
      ok (suc (suc (suc (suc (suc k))))) h e = tt

      go : (p < n) ⊎ (n ≤ p) → PageOk (page_at v n p)
      go (inl h) = rw (page_in v n p h) (ok (kind v p) h refl)
      go (inr h) = rw (page-past v n p h) tt

  pub table_ok : rule5 v n ≡ true → TableOk n (page_at v n)
  unfolding LiesIn
  table_ok five = record { each = page_ok five; past = page-past v n; ends = ends; inner = inner; owner = owner }
    where
      ends : (p : ℕ) → page_at v n p ≡ edge → n ≤ p
      ends p e = go (lt? p n)
        where
          go : (p < n) ⊎ (n ≤ p) → n ≤ p
          go (inl h) = absurd (omega (arith, edge-kind _ _ _ (kind v p) (sym (page_in v n p h) ∙ e), R.kinds p h))
          go (inr h) = h

      inner : (p x j : ℕ) → page_at v n p ≡ taken x → p < j → j < p + x → page_at v n j ≡ inside
      inner p x j e a b =
          let h : p < n = there v n p (taken x) e (λ z. never (cc)) in
          let k = taken-kind _ _ _ (kind v p) x (sym (page_in v n p h) ∙ e) in
          let F = (R.kind3 p h k.0).fits in
          page-kind v n j 4 (omega (arith, F.within, k.1)) (F.each j a (omega (arith, k.1)))

      owner : (j : ℕ) → page_at v n j ≡ inside → (p : ℕ) × (x : ℕ) × (page_at v n p ≡ taken x) × (p < j) × (j < p + x)
      owner j e =
          let h : j < n = there v n j inside e (λ z. never (cc)) in
          let k : kind v j ≡ 4 = inside-kind _ _ _ (kind v j) (sym (page_in v n j h) ∙ e) in
          let (q, l, d, a, b) = (R.kind4 j h k).lies in
          (q, run v q, page-kind v n q 3 l d, a, b)

  -- ---- the free runs
  pub stretch : (p : ℕ) → p < n → kind v p ≡ 1 → Stretch (λ j. is_idle (page_at v n j)) (run_at (run v) p)
  stretch p h k =
      let F = (R.kind1 p h k).fits in
      record {
        some-page = F.some-page;
        all_free = λ j a b. ap is_idle (page-idle v n j (omega (arith, F.within)) (free j a b (lt? p j)));
        low_end = λ j a. decided _ (λ e. low j a (idle_there v n j e));
        high_end = λ j a. decided _ (λ e. high j a (idle_there v n j e));
      }
    where
      free : (j : ℕ) → p ≤ j → j < p + run v p → (p < j) ⊎ (j ≤ p) → kind v j ≤ 1
      free j a b (inl l) = omega (arith, (R.kind1 p h k).fits.each j l b)
      free j a b (inr l) = let z : j ≡ p = omega arith in omega (arith, ap (kind v) z)

      high : (j : ℕ) → j ≡ p + run v p → (j < n) × (kind v j ≤ 1) → ⊥
      high j a x = omega (arith, R.apart p h k (omega (arith, x.0)), ap (kind v) a, x.1)

      -- the run of a free page right before p would reach p
      low : (j : ℕ) → suc j ≡ p → (j < n) × (kind v j ≤ 1) → ⊥
      low j a x = go (free_run_lem v n R j x.0 x.1)
        where
          go : (q : ℕ) × (q < n) × (kind v q ≡ 1) × (q ≤ j) × (j < q + run v q) → ⊥
          go (q, l, d, c, b) = reach (lt? p (q + run v q))
            where
              reach : (p < q + run v q) ⊎ (q + run v q ≤ p) → ⊥
              reach (inl m) = omega (arith, (R.kind1 q l d).fits.each p (omega arith) m)
              reach (inr m) =
                  let z : q + run v q ≡ p = omega arith in
                  omega (arith, R.apart q l d (omega arith), ap (kind v) z)

  runs_ok : n ≤ no_page → rule3 v n ≡ true → RunsOk (λ j. is_idle (page_at v n j)) (with_lengths (run v) (heads_of v n))
  unfolding Head
  runs_ok few e =
      let L = heads_listed v n few e in
      record {
        once = runs-once (run v) (heads_of v n) L.once;
        sound = λ r m.
            let (a, b) = run_on (run v) (heads_of v n) r m in
            let (h, k) = L.holds r.start a in
            rw b (stretch r.start h k);
        covers = λ j f.
            let (h, k) = idle_there v n j f in
            let (q, l, d, a, b) = free_run_lem v n R j h k in
            (run_at (run v) q, on_run (run v) (heads_of v n) q (L.all q (l, d)), a, b);
      }

  -- ---- the class lists
  lists_ok : n ≤ no_page → rule4 v n ≡ true → ListsOk (page_at v n) (list_of v n)
  unfolding open_at list_of Open
  lists_ok few e = record { once = λ c. once c (lt? c 9); holds = λ c p m. holds c p m (lt? c 9); all = all }
    where
      none-past : (c : ℕ) → 9 ≤ c → list_of v n c ≡ []
      none-past c h = pick_no _ _ _ (le-ltb c 9 h)

      once : (c : ℕ) → (c < 9) ⊎ (9 ≤ c) → NoDup (list_of v n c)
      once c (inl h) = (class-listed v n few e c h).once
      once c (inr h) = rw (none-past c h) tt

      holds : (c p : ℕ) → Mem p (list_of v n c) → (c < 9) ⊎ (9 ≤ c) → is_open c (page_at v n p) ≡ true
      holds c p m (inl h) = says_open v n c p ((class-listed v n few e c h).holds p m)
      holds c p m (inr h) = absurd (rw (none-past c h) at m)

      all : (c p : ℕ) → is_open c (page_at v n p) ≡ true → Mem p (list_of v n c)
      all c p t =
          let x = open_says v n c p t in
          (class-listed v n few e c (omega (arith, (R.kind2 p x.0 x.1).in_range, x.2))).all p x

  -- ---- the tallies
  pub tally_ok : (c : ℕ) → TallyOk c (tally_of v c)
  unfolding tally_of most
  tally_ok c = go (lt? c 9)
    where
      go : (c < 9) ⊎ (9 ≤ c) → TallyOk c (tally_of v c)
      go (inl h) =
          rw (pick_yes _ _ _ (lt-ltb c 9 h)) (record { reqs-fit = omega (arith, (B.class c h).reqs); fails-fit = omega (arith, (B.class c h).fails); none-past = λ l. absurd (omega arith) })
      go (inr h) = rw (pick_no _ _ _ (le-ltb c 9 h)) (record { reqs-fit = omega arith; fails-fit = omega arith; none-past = λ l. refl })

pub fields_well : {v : Fields} {n : ℕ} → 1 ≤ n → n ≤ no_page → Holds v n → Bounds v n → WellFormed (read_fields v n)
unfolding read_fields
fields_well {v} {n} some few H B =
    let R = shape-says v n (rule2-shape v n H.two) in
    record {
      some-page = some;
      table = table_ok v n B R H.five;
      free_runs = runs_ok v n B R few H.three;
      class-lists = lists_ok v n B R few H.four;
      tallies = tally_ok v n B R;
    }
