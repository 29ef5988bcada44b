-- An image that shows the links of a well-formed state has them, page by page; and the state's own image shows them.
use mathlib.Core.Path.{◌≡◌, refl, sym, ◌∙◌}
use mathlib.Core.Logic.{◌⊎◌, inl, inr, ◌≢◌}
use mathlib.Core.Bool.{true, false}
use mathlib.Core.List.{List, ◌∷◌}
use Prim.Native.Nat.{ℕ, suc, ◌-◌, ◌≤◌, ◌<◌}
use native.Mathlib.Omega.{arith}
use borrow.Author.Tests.{eq-eqb, ne_eqb}
use Rattle.base.specs.Tests.{pick}
use Rattle.base.specs.Lists.{Mem}
use Rattle.base.specs.Links.{head_or, next_in, prev_from}
use Rattle.base.proofs.Cases.{clash, bool?, eq?, lt?}
use Rattle.records.specs.Layout.{no_page}
use Rattle.records.specs.declared.Links.{Links}
use Rattle.model.specs.State.{Page, idle, slab, taken, inside, edge, Run, State, is_idle, is_open}
use Rattle.model.specs.Runs.{starts_at}
use Rattle.model.proofs.Table.{is_idle_lem}
use Rattle.model.proofs.Lists.{open_is}
use Rattle.model.specs.WellFormed.{RunsOk, ListsOk, TableOk, WellFormed}
use Rattle.image.specs.Image.{Image}
use Rattle.lists.specs.Mirror.{between}
use Rattle.lists.specs.Nodes.{head, first_in, next_of, prev_of, Listed}
use Rattle.rules.specs.Drawn.{starts, links, on_list, free_links, page_links, state_image}
use Rattle.rules.proofs.Runs.{mem-start, start-some, starts-mem}
use Rattle.shows.specs.Shows.{ShowsLinks}
use Rattle.lists.proofs.Laws.{next-page, next-head}

-- a page of a list, with the kind, class and run that it should have
on_list_lem : (J : Image) (list kind class run p : ℕ) (xs : List ℕ) (l : Links) → Listed J list xs → Mem p xs → p < no_page
    → l ≡ between (links kind class run 0 0) l.prev.0 l.next.0
    → J.links p ≡ between l (prev_of J p) (J.links p).next.0 → J.links p ≡ on_list kind class run p xs
on_list_lem J list kind class run p xs l K m low e f =
    let n : (J.links p).next.0 ≡ next_in no_page p xs =
    sym (next-page J p low) ∙ K.nexts p (inr m) ∙ rw (ne_eqb (head list) p (λ d. omega arith)) in
    f ∙ rw (e, K.prevs p m, n)

module _ {P : ℕ} {page : ℕ → Page} {rs : List Run} {ls : ℕ → List ℕ} (T : TableOk P page) (R : RunsOk (λ j. is_idle (page j)) rs) (L : ListsOk page ls) where
  -- a listed run starts in a free page, and a listed page has a clear mark
  pub start-idle : (p : ℕ) → Mem p (starts rs) → is_idle (page p) ≡ true
  start-idle p m =
      let (r, k, e) = mem-start rs p m in
      (R.sound r k).all_free p (omega arith) (omega (arith, (R.sound r k).some-page))

  pub not_start : (p : ℕ) → is_idle (page p) ≡ false → ¬ Mem p (starts rs)
  not_start p e m = clash (start-idle p m) e

  pub not_listed : (c p : ℕ) → is_open c (page p) ≡ false → ¬ Mem p (ls c)
  not_listed c p e m = clash (L.holds c p m) e

  module _ {J : Image} (few : P ≤ no_page) (S : ShowsLinks P page rs ls J) where
    pub has-links : (p : ℕ) → p < P → J.links p ≡ page_links rs ls p (page p)
    unfolding free_links pick is_open
    has-links p h = go (page p) refl
      where
        go : (x : Page) → page p ≡ x → J.links p ≡ page_links rs ls p x
        go idle e = run (eq? (starts_at p rs) 0)
          where
            run : (starts_at p rs ≡ 0) ⊎ (starts_at p rs ≢ 0) → J.links p ≡ free_links rs p
            run (inl z) =
                rw e at (S.unlisted p h (record {
                  no_run = λ m. let (r, k, d) = mem-start rs p m in none r k d;
                  no-class = λ c l m. clash (L.holds c p m) (rw e);
                }))
              where
                none : (r : Run) → Mem r rs → r.start ≡ p → ⊥
                none r k d = start-some R r k (rw d z)
            run (inr z) =
                rw (ne_eqb (starts_at p rs) 0 z)
                (on_list_lem J 0 1 0 (starts_at p rs) p (starts rs) (free_links rs p) S.free_list (starts-mem R p z) (omega arith)
                (rw (ne_eqb (starts_at p rs) 0 z)) (rw e at (S.shape p h)))
        go (slab c m) e = listed (bool? (is_open c (page p)))
          where
            listed : (is_open c (page p) ≡ true) ⊎ (is_open c (page p) ≡ false) → J.links p ≡ on_list 2 c 0 p (ls c)
            listed (inl t) =
                on_list_lem J (suc c) 2 c 0 p (ls c) (on_list 2 c 0 p (ls c)) (S.class_list c (rw e at (T.each p)).in_range) (L.all c p t) (omega arith) refl (rw e at (S.shape p h))
            listed (inr t) = rw e at (S.unlisted p h (record { no_run = not_start p (rw e); no-class = λ d l k. off d k (eq? d c) }))
              where
                off : (d : ℕ) → Mem p (ls d) → (d ≡ c) ⊎ (d ≢ c) → ⊥
                off d k (inl w) = not_listed c p t (rw (← w) k)
                off d k (inr w) = clash (L.holds d p k) (rw (e, ne_eqb c d (λ y. w (sym y))))
        go (taken n) e = rw e at (S.unlisted p h (record { no_run = not_start p (rw e); no-class = λ c l. not_listed c p (rw e) }))
        go inside e = rw e at (S.unlisted p h (record { no_run = not_start p (rw e); no-class = λ c l. not_listed c p (rw e) }))
        go edge e = rw e at (S.unlisted p h (record { no_run = not_start p (rw e); no-class = λ c l. not_listed c p (rw e) }))

-- ---- the image of a well-formed state

-- a list whose pages have next and previous as the list says, and whose first page stands at its head
listed_by : (J : Image) (list : ℕ) (xs : List ℕ) → first_in J list ≡ head_or no_page xs → ((q : ℕ) → Mem q xs → q < no_page)
    → ((q : ℕ) → Mem q xs → ((J.links q).next.0 ≡ next_in no_page q xs) × (prev_of J q ≡ prev_from no_page no_page q xs)) → Listed J list xs
listed_by J list xs f low h = record { nexts = next; prevs = λ q m. (h q m).1 }
  where
    next : (q : ℕ) → Mem q (head list ∷ xs) → next_of J q ≡ next_in no_page q (head list ∷ xs)
    next q (inl e) = rw (e, eq-eqb (head list) (head list) refl) (next-head J list ∙ f)
    next q (inr m) = rw (ne_eqb (head list) q (λ e. omega (arith, low q m))) (next-page J q (low q m) ∙ (h q m).0)

module _ (m : State) (W : WellFormed m) (few : m.size ≤ no_page) where
  -- listed pages lie in the pool
  pub listed-low : (c p : ℕ) → Mem p (m.lists c) → p < no_page
  unfolding is_open
  listed-low c p k = go (lt? p m.size)
    where
      go : (p < m.size) ⊎ (m.size ≤ p) → p < no_page
      go (inl h) = omega arith
      go (inr h) = absurd (clash (W.class-lists.holds c p k) (rw (W.table.past p h)))

  pub start-low : (p : ℕ) → Mem p (starts m.runs) → p < no_page
  start-low p k = go (lt? p m.size)
    where
      go : (p < m.size) ⊎ (m.size ≤ p) → p < no_page
      go (inl h) = omega arith
      go (inr h) = absurd (clash (start-idle W.table W.free_runs W.class-lists p k) (rw (W.table.past p h)))

  pub state-shows : ShowsLinks m.size m.page m.runs m.lists (state_image m)
  unfolding state_image first_in pick free_links
  state-shows = record {
    free_list = listed_by (state_image m) 0 (starts m.runs) refl start-low run;
    class_list = λ c l. listed_by (state_image m) (suc c) (m.lists c) (first c) (listed-low c) (page c);
    shape = λ p h. refl;
    unlisted = λ p h u. refl;
  }
    where
      run : (q : ℕ) → Mem q (starts m.runs) →
          (((state_image m).links q).next.0 ≡ next_in no_page q (starts m.runs)) × (((state_image m).links q).prev.0 ≡ prev_from no_page no_page q (starts m.runs))
      run q k =
          let (r, j, e) = mem-start m.runs q k in
          let z : starts_at q m.runs ≢ 0 = λ d. start-some W.free_runs r j (rw e d) in
          let i : m.page q ≡ idle = is_idle_lem (m.page q) (start-idle W.table W.free_runs W.class-lists q k) in
          (rw (i, ne_eqb (starts_at q m.runs) 0 z), rw (i, ne_eqb (starts_at q m.runs) 0 z))

      first : (c : ℕ) → first_in (state_image m) (suc c) ≡ head_or no_page (m.lists c)
      first c = rw (ne_eqb (suc c) 0 (omega arith), suc_pred c)
        where
          suc_pred : (d : ℕ) → suc d - 1 ≡ d
          suc_pred d = omega arith

      page : (c q : ℕ) → Mem q (m.lists c) →
          (((state_image m).links q).next.0 ≡ next_in no_page q (m.lists c)) × (((state_image m).links q).prev.0 ≡ prev_from no_page no_page q (m.lists c))
      page c q k = let (b, i, o) = open_is c (m.page q) (W.class-lists.holds c q k) in (rw i, rw i)
