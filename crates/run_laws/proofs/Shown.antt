-- An image shows a list of free runs: run by run, and page by page as `shows` says it.
use mathlib.Core.Path.{◌≡◌, refl, sym, ap, ◌∙◌, subst}
use mathlib.Core.Logic.{◌⊎◌, inl, inr, ◌≢◌}
use mathlib.Core.Bool.{Bool, true, false}
use mathlib.Core.List.{List, ◌∷◌}
use Prim.Native.Nat.{ℕ, suc, ◌+◌, ◌-◌, ◌≤◌, ◌<◌}
use native.Mathlib.Omega.{arith}
use lib.Dec.{eqb}
use borrow.Author.Tests.{eq-eqb, ne_eqb}
use Rattle.base.specs.Tests.{pick}
use Rattle.base.specs.Lists.{Mem}
use Rattle.base.specs.Links.{head_or}
use Rattle.base.proofs.Cases.{clash, never, bool?, eq?, Out}
use Rattle.base.proofs.Links.{linked-frame}
use Rattle.records.specs.Layout.{no_page}
use Rattle.records.specs.declared.Links.{Links}
use Rattle.model.specs.State.{Page, idle, slab, taken, inside, edge, Run, State, is_idle}
use Rattle.model.specs.Runs.{end, ends_at}
use Rattle.model.specs.WellFormed.{RunsOk, WellFormed}
use Rattle.model.proofs.Runs.{same_run, Keyed, keyed, starts_at_lem, ends_at_lem}
use Rattle.model.proofs.Table.{is_idle_lem, in_table}
use Rattle.model.proofs.Lists.{open_is}
use Rattle.image.specs.Image.{Image}
use Rattle.lists.specs.Mirror.{between}
use Rattle.lists.specs.Nodes.{head, first_in, next_of, prev_of, Listed}
use Rattle.lists.proofs.Laws.{next-page, next-head}
use Rattle.rules.specs.Drawn.{starts, on_list, back_link, free_links, page_links}
use Rattle.rules.proofs.Runs.{mem-start, inner_start, start-mem}
use Rattle.shows.specs.Shows.{Unlisted, ShowsOn, ShowsLinks}
use Rattle.run_extents.specs.Mirror.{plain}
use Rattle.run_laws.specs.Scene.{Scene}

-- a page of run x but its first: the last one leads back
unfoldable pub body : Run → ℕ → Links
body x q = plain 0 0 (pick (eqb (q + 1) (x.start + x.len)) x.start no_page)

pub record RunsShown (rs : List Run) (J : Image) : Type 0 where
  pub list : Listed J 0 (starts rs)
  pub heads : (x : Run) → Mem x rs → J.links x.start ≡ between (plain 1 x.len no_page) (prev_of J x.start) (J.links x.start).next.0
  pub bodies : (x : Run) → Mem x rs → (q : ℕ) → x.start < q → q < x.start + x.len → J.links q ≡ body x q

-- ---- a list of maximal runs

module _ {g : ℕ → Bool} {rs : List Run} (ok : RunsOk g rs) where
  pub start-once : (x y : Run) → Mem x rs → Mem y rs → x.start ≡ y.start → x ≡ y
  start-once x y m n e =
      same_run (ok.sound x m) (ok.sound y n) x.start (omega arith) (omega (arith, (ok.sound x m).some-page)) (omega arith)
      (omega (arith, (ok.sound y n).some-page))

  pub end-once : (x y : Run) → Mem x rs → Mem y rs → end x ≡ end y → x ≡ y
  end-once x y m n e =
      let a = (ok.sound x m).some-page in
      let b = (ok.sound y n).some-page in
      same_run (ok.sound x m) (ok.sound y n) (x.start + x.len - 1) (omega arith) (omega arith) (omega arith) (omega arith)

  -- each run starts in a free page
  pub start-free : (q : ℕ) → Mem q (starts rs) → g q ≡ true
  start-free q m =
      let (x, n, e) = mem-start rs q m in
      (ok.sound x n).all_free q (omega arith) (omega (arith, (ok.sound x n).some-page))

  pub busy_start : (q : ℕ) → g q ≡ false → ¬ Mem q (starts rs)
  busy_start q e m = clash (start-free q m) e

  module _ (x : Run) (m : Mem x rs) where
    pub within : (q : ℕ) → x.start < q → q < x.start + x.len → ¬ Mem q (starts rs)
    within q a b n =
        let (y, k, e) = mem-start rs q n in
        let z : x ≡ y = same_run (ok.sound x m) (ok.sound y k) q (omega arith) b (omega arith) (omega (arith, (ok.sound y k).some-page)) in
        omega (arith, ap (λ (r : Run). r.start) z)

    pub head-free : free_links rs x.start ≡ on_list 1 0 x.len x.start (starts rs)
    unfolding free_links pick
    head-free = rw (starts_at_lem ok x m, ne_eqb x.len 0 (omega (arith, (ok.sound x m).some-page)))

    -- only x ends in a page of x
    pub no_end : (q : ℕ) → x.start ≤ q → q < x.start + x.len → q + 1 ≢ x.start + x.len → ends_at (q + 1) rs ≡ 0
    unfolding Keyed
    no_end q a b d = go (keyed end (q + 1) rs)
      where
        go : Keyed end (q + 1) rs (ends_at (q + 1) rs) → ends_at (q + 1) rs ≡ 0
        go (inl (y, k, e, l)) =
            let z : x ≡ y = same_run (ok.sound x m) (ok.sound y k) q (omega arith) b (omega (arith, (ok.sound y k).some-page)) (omega arith) in
            absurd (d (sym e ∙ ap end (sym z)))
        go (inr (z, n)) = z

    pub body_free : (q : ℕ) → x.start < q → q < x.start + x.len → free_links rs q ≡ body x q
    unfolding free_links body back_link pick
    body_free q a b = rw (inner_start ok x m q a b) (go (eq? (q + 1) (x.start + x.len)))
      where
        go : (q + 1 ≡ x.start + x.len) ⊎ (q + 1 ≢ x.start + x.len)
            → plain 0 0 (pick (eqb (ends_at (q + 1) rs) 0) no_page (q + 1 - ends_at (q + 1) rs)) ≡ plain 0 0 (pick (eqb (q + 1) (x.start + x.len)) x.start no_page)
        go (inl e) =
            let z : x.start + x.len - x.len ≡ x.start = omega arith in
            rw (e, ends_at_lem ok x m, ne_eqb x.len 0 (omega (arith, (ok.sound x m).some-page)), eq-eqb (x.start + x.len) (x.start + x.len) refl, z)
        go (inr e) = rw (no_end q (omega arith) b e, ne_eqb (q + 1) (x.start + x.len) e)

-- ---- run by run from page by page

module _ {P : ℕ} {page : ℕ → Page} {rs : List Run} {ls : ℕ → List ℕ} (T : Scene P page rs ls) {on : ℕ → Type 0} {J : Image} (S : ShowsOn on page rs ls J)
    (free_on : (q : ℕ) → is_idle (page q) ≡ true → on q) where
  pub runs-shown : RunsShown rs J
  runs-shown = record {
    list = S.free_list;
    heads = λ x m.
        let i : is_idle (page x.start) ≡ true = start-free T.runs x.start (start-mem rs x m) in
        S.shape x.start (free_on x.start i) ∙ rw (is_idle_lem (page x.start) i, head-free T.runs x m);
    bodies = λ x m q a b.
        let i : is_idle (page q) ≡ true = (T.runs.sound x m).all_free q (omega arith) b in
        S.unlisted q (free_on q i) (record {
          no_run = within T.runs x m q a b;
          no-class = λ c l n. clash i (T.class_in c q l n).1;
        })
        ∙ rw (is_idle_lem (page q) i) (body_free T.runs x m q a b);
  }

-- ---- and back

-- what a page that is not free shows does not depend on the free runs
busy_links : (rs rs' : List Run) (ls : ℕ → List ℕ) (q : ℕ) (x : Page) → is_idle x ≡ false → page_links rs ls q x ≡ page_links rs' ls q x
busy_links rs rs' ls q idle e = absurd (clash refl e)
busy_links rs rs' ls q (slab c m) e = refl
busy_links rs rs' ls q (taken n) e = refl
busy_links rs rs' ls q inside e = refl
busy_links rs rs' ls q edge e = refl

-- a list whose pages and first page are left alone
pub listed_kept : (I J : Image) (list : ℕ) (xs : List ℕ) → first_in J list ≡ first_in I list → ((q : ℕ) → Mem q xs → (q < no_page) × (J.links q ≡ I.links q))
    → Listed I list xs → Listed J list xs
listed_kept I J list xs first same K = linked-frame next (λ q m. ap (λ (l : Links). l.prev.0) (same q m).1) K
  where
    next : (q : ℕ) → Mem q (head list ∷ xs) → next_of J q ≡ next_of I q
    next q (inl e) = rw e (next-head J list ∙ first ∙ sym (next-head I list))
    next q (inr m) =
        next-page J q (same q m).0 ∙ ap (λ (l : Links). l.next.0) (same q m).1 ∙ sym (next-page I q (same q m).0)

-- The free runs change, the pages' kinds change among the k pages from a on, and every other page that is not free keeps its record.
module _ {P : ℕ} {page : ℕ → Page} {rs : List Run} {ls : ℕ → List ℕ} (T : Scene P page rs ls) {on : ℕ → Type 0} {I : Image} (S : ShowsOn on page rs ls I)
    (page' : ℕ → Page) (rs' : List Run) {on' : ℕ → Type 0} (J : Image) (a k : ℕ)
    (runs' : RunsOk (λ j. is_idle (page' j)) rs')
    (R : RunsShown rs' J)
    (same-page : (q : ℕ) → Out a k q → page' q ≡ page q)
    (was-on : (q : ℕ) → q < P → Out a k q → on q)
    (is-on : (q : ℕ) → on' q → is_idle (page' q) ≡ false → (q < P) × Out a k q)
    (class-out : (c q : ℕ) → c ≤ 8 → Mem q (ls c) → Out a k q)
    (classes : J.class ≡ I.class)
    (quiet : (q : ℕ) → q < P → is_idle (page q) ≡ false → Out a k q → J.links q ≡ I.links q) where
  pub shows-runs : ShowsOn on' page' rs' ls J
  shows-runs = record {
    free_list = R.list;
    class_list = λ c l.
        listed_kept I J (suc c) (ls c) (first c)
        (λ q m. (omega (arith, T.few, (T.class_in c q l m).0), quiet q (T.class_in c q l m).0 (T.class_in c q l m).1 (class-out c q l m)))
        (S.class_list c l);
    shape = λ q o. shaped q o (bool? (is_idle (page' q)));
    unlisted = λ q o u. plainly q o u (bool? (is_idle (page' q)));
  }
    where
      first : (c : ℕ) → first_in J (suc c) ≡ first_in I (suc c)
      first c = unfold first_in pick in rw (ne_eqb (suc c) 0 (omega arith), classes)

      free : (q : ℕ) → is_idle (page' q) ≡ true →
          ((x : Run) × Mem x rs' × (q ≡ x.start)) ⊎ ((x : Run) × Mem x rs' × (x.start < q) × (q < x.start + x.len))
      free q i = let (x, m, a, b) = runs'.covers q i in go x m a b (eq? q x.start)
        where
          go : (x : Run) → Mem x rs' → x.start ≤ q → q < x.start + x.len → (q ≡ x.start) ⊎ (q ≢ x.start)
              → ((x : Run) × Mem x rs' × (q ≡ x.start)) ⊎ ((x : Run) × Mem x rs' × (x.start < q) × (q < x.start + x.len))
          go x m a b (inl e) = inl (x, m, e)
          go x m a b (inr e) = inr (x, m, omega arith, b)

      busy : (q : ℕ) → on' q → is_idle (page' q) ≡ false → (J.links q ≡ I.links q) × (page_links rs ls q (page q) ≡ page_links rs' ls q (page' q)) × on q
      busy q o i =
          let (l, out) = is-on q o i in
          let e = same-page q out in
          let d : is_idle (page q) ≡ false = ap is_idle (sym e) ∙ i in
          (quiet q l d out, busy_links rs rs' ls q (page q) d ∙ ap (page_links rs' ls q) (sym e), was-on q l out)

      shaped : (q : ℕ) → on' q → (is_idle (page' q) ≡ true) ⊎ (is_idle (page' q) ≡ false)
          → J.links q ≡ between (page_links rs' ls q (page' q)) (prev_of J q) (J.links q).next.0
      shaped q o (inl i) = rw (is_idle_lem (page' q) i) (go (free q i))
        where
          go : ((x : Run) × Mem x rs' × (q ≡ x.start)) ⊎ ((x : Run) × Mem x rs' × (x.start < q) × (q < x.start + x.len))
              → J.links q ≡ between (free_links rs' q) (prev_of J q) (J.links q).next.0
          go (inl (x, m, e)) = rw (e, head-free runs' x m) (R.heads x m)
          go (inr (x, m, a, b)) = let e = R.bodies x m q a b ∙ sym (body_free runs' x m q a b) in rw (← e)
      shaped q o (inr i) =
          let (e, d, w) = busy q o i in
          subst (λ (l : Links). l ≡ between (page_links rs' ls q (page' q)) l.prev.0 l.next.0) (sym e) (rw (← d) (S.shape q w))

      plainly : (q : ℕ) → on' q → Unlisted rs' ls q → (is_idle (page' q) ≡ true) ⊎ (is_idle (page' q) ≡ false) → J.links q ≡ page_links rs' ls q (page' q)
      plainly q o u (inl i) = rw (is_idle_lem (page' q) i) (go (free q i))
        where
          go : ((x : Run) × Mem x rs' × (q ≡ x.start)) ⊎ ((x : Run) × Mem x rs' × (x.start < q) × (q < x.start + x.len)) → J.links q ≡ free_links rs' q
          go (inl (x, m, e)) = absurd (u.no_run (rw e (start-mem rs' x m)))
          go (inr (x, m, a, b)) = R.bodies x m q a b ∙ sym (body_free runs' x m q a b)
      plainly q o u (inr i) =
          let (e, d, w) = busy q o i in
          let (l, out) = is-on q o i in
          rw (e, ← d) (S.unlisted q w (record { no_run = busy_start T.runs q (ap is_idle (sym (same-page q out)) ∙ i); no-class = u.no-class }))

-- ---- what is shown of fewer pages, the first run, and the scene of a well-formed state

pub shows_fewer : {on on' : ℕ → Type 0} {page : ℕ → Page} {rs : List Run} {ls : ℕ → List ℕ} {J : Image} → ShowsOn on page rs ls J → ((q : ℕ) → on' q → on q)
    → ShowsOn on' page rs ls J
shows_fewer S f = record { free_list = S.free_list; class_list = S.class_list; shape = λ q o. S.shape q (f q o); unlisted = λ q o. S.unlisted q (f q o) }

-- the first page of the list of free runs that an image shows
pub first_run : {P : ℕ} {page : ℕ → Page} {rs : List Run} {ls : ℕ → List ℕ} {J : Image} → ShowsLinks P page rs ls J → J.first_run ≡ head_or no_page (starts rs)
unfolding first_in pick
first_run {P} {page} {rs} {ls} {J} S = sym (next-head J 0) ∙ S.free_list.nexts (head 0) (inl refl)

pub state_scene : {m : State} → WellFormed m → m.size ≤ no_page → Scene m.size m.page m.runs m.lists
state_scene {m} W few = record {
  few = few;
  runs = W.free_runs;
  idle_in = λ q i. in_table W.table q (λ e. clash i (rw e));
  class_in = λ c q l n.
      let (b, e, o) = open_is c (m.page q) (W.class-lists.holds c q n) in
      (in_table W.table q (λ d. never (cc)), rw e);
}
