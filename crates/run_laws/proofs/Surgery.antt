-- A run leaves the list of free runs, another takes its place, one comes in front, and records of pages off the list are written.
use mathlib.Core.Path.{◌≡◌, refl, sym, ap, ◌∙◌, subst}
use mathlib.Core.Logic.{◌⊎◌, inl, inr, ◌≢◌}
use mathlib.Core.Bool.{Bool, true}
use mathlib.Core.List.{List, [], ◌∷◌}
use Prim.Native.Nat.{ℕ, ◌+◌, ◌-◌, ◌≤◌, ◌<◌}
use native.Mathlib.Omega.{arith}
use borrow.Author.Tests.{eq-eqb, ne_eqb, lt-ltb, le-ltb}
use Rattle.base.specs.Tests.{pick}
use Rattle.base.specs.Lists.{Mem, NoDup, keep}
use Rattle.base.specs.Links.{head_or, next_in, others, replace}
use Rattle.base.proofs.AllBelow.{pick_yes}
use Rattle.base.proofs.Cases.{eq?, lt?}
use Rattle.base.proofs.Functions.{upd_same, upd_other}
use Rattle.base.proofs.Neighbours.{next_on, prev_on}
use Rattle.records.specs.Layout.{no_page}
use Rattle.records.specs.declared.Links.{Links}
use Rattle.model.specs.State.{Run}
use Rattle.model.specs.WellFormed.{RunsOk}
use Rattle.image.specs.Image.{Image, set_all_links}
use Rattle.lists.specs.Mirror.{between}
use Rattle.lists.specs.Nodes.{head, first_in, Listed, put_first, put_next, unlink, push, put}
use Rattle.lists.proofs.Laws.{next-page, next-head, unlink-listed, push-listed, put-listed, unlink-off, push-off, put-off, unlink_relinked, push_relinked, put_relinked}
use Rattle.rules.specs.Drawn.{starts}
use Rattle.rules.proofs.Runs.{mem-start, starts-once, start-mem}
use Rattle.run_extents.specs.Mirror.{plain}
use Rattle.run_laws.specs.OnImage.{back_on}
use Rattle.run_laws.proofs.Shown.{RunsShown, within, listed_kept}

-- ---- what changes of list 0 leave alone

pub record Kept (I J : Image) : Type 0 where
  pub free_pages : J.free_pages ≡ I.free_pages
  pub class : J.class ≡ I.class
  pub map : J.map ≡ I.map

pub kept-both : {I J K : Image} → Kept I J → Kept J K → Kept I K
kept-both A B = record { free_pages = B.free_pages ∙ A.free_pages; class = B.class ∙ A.class; map = B.map ∙ A.map }

pub kept-links : (I : Image) (f : ℕ → Links) → Kept I (set_all_links I f)
kept-links I f = record { free_pages = refl; class = refl; map = refl }

kept_next : (I : Image) (p v : ℕ) → Kept I (put_next I 0 p v)
unfolding put_next put_first pick
kept_next I p v = go (eq? p no_page)
  where
    go : (p ≡ no_page) ⊎ (p ≢ no_page) → Kept I (put_next I 0 p v)
    go (inl e) = rw (eq-eqb p no_page e) (record { free_pages = refl; class = refl; map = refl })
    go (inr e) = rw (ne_eqb p no_page e) (record { free_pages = refl; class = refl; map = refl })

pub kept-unlink : (I : Image) (l : Links) → Kept I (unlink I 0 l)
unfolding unlink
kept-unlink I l = kept-both (kept_next I l.prev.0 l.next.0) (kept-links _ _)

pub kept_put : (I : Image) (old : Links) (p : ℕ) (l : Links) → Kept I (put I 0 old p l)
unfolding put
kept_put I old p l = kept-both (kept-both (kept-links I _) (kept_next _ old.prev.0 p)) (kept-links _ _)

pub kept_push : (I : Image) (p : ℕ) (l : Links) → Kept I (push I 0 p l)
unfolding push put_first pick
kept_push I p l = record { free_pages = refl; class = refl; map = refl }

-- ---- the back link of a run's last page

module _ (J : Image) (t n : ℕ) where
  pub back_at : 1 < n → (back_on J t n).links (t + (n - 1)) ≡ plain 0 0 t
  unfolding back_on
  back_at h = ap (λ (I : Image). I.links (t + (n - 1))) (pick_yes _ _ _ (lt-ltb 1 n h)) ∙ upd_same J.links (t + (n - 1)) (plain 0 0 t)

  pub back-off : (q : ℕ) → (1 < n → q ≢ t + (n - 1)) → (back_on J t n).links q ≡ J.links q
  unfolding back_on pick
  back-off q d = go (lt? 1 n)
    where
      go : (1 < n) ⊎ (n ≤ 1) → (back_on J t n).links q ≡ J.links q
      go (inl h) = rw (lt-ltb 1 n h) (upd_other J.links (t + (n - 1)) (plain 0 0 t) q (d h))
      go (inr h) = rw (le-ltb 1 n h)

  pub back-first : (back_on J t n).first_run ≡ J.first_run
  unfolding back_on pick
  back-first = go (lt? 1 n)
    where
      go : (1 < n) ⊎ (n ≤ 1) → (back_on J t n).first_run ≡ J.first_run
      go (inl h) = rw (lt-ltb 1 n h)
      go (inr h) = rw (le-ltb 1 n h)

  pub kept_back : Kept J (back_on J t n)
  unfolding back_on pick
  kept_back = go (lt? 1 n)
    where
      go : (1 < n) ⊎ (n ≤ 1) → Kept J (back_on J t n)
      go (inl h) = rw (lt-ltb 1 n h) (kept-links J _)
      go (inr h) = rw (le-ltb 1 n h) (record { free_pages = refl; class = refl; map = refl })

-- ---- the list of free runs

-- the links of a run's first page
abbrev pub Heads : ℕ → Links → Type 0
Heads n l = l ≡ between (plain 1 n no_page) l.prev.0 l.next.0

pub heads_kept : (n : ℕ) {l m : Links} → m ≡ l → Heads n l → Heads n m
heads_kept n {l} {m} e h = subst (Heads n) (sym e) h

-- the runs lie in the pool, start in different pages, and none starts within another
pub record Clear (rs : List Run) : Type 0 where
  pub once : NoDup (starts rs)
  pub some-page : (x : Run) → Mem x rs → 1 ≤ x.len
  pub low : (x : Run) → Mem x rs → (q : ℕ) → x.start ≤ q → q < x.start + x.len → q < no_page
  pub inner : (x : Run) → Mem x rs → (q : ℕ) → x.start < q → q < x.start + x.len → ¬ Mem q (starts rs)

pub clear : {g : ℕ → Bool} {rs : List Run} → RunsOk g rs → ((q : ℕ) → g q ≡ true → q < no_page) → Clear rs
clear ok low = record {
  once = starts-once ok;
  some-page = λ x m. (ok.sound x m).some-page;
  low = λ x m q a b. low q ((ok.sound x m).all_free q a b);
  inner = within ok;
}

module _ {rs : List Run} (C : Clear rs) where
  pub pages : (q : ℕ) → Mem q (starts rs) → q < no_page
  pages q m = let (x, n, e) = mem-start rs q m in C.low x n q (omega arith) (omega (arith, C.some-page x n))

  -- some of the runs
  pub clear_sub : (l : List Run) → ((x : Run) → Mem x l → Mem x rs) → NoDup (starts l) → Clear l
  clear_sub l sub once = record {
    once = once;
    some-page = λ x m. C.some-page x (sub x m);
    low = λ x m. C.low x (sub x m);
    inner = λ x m q a b n. let (y, k, e) = mem-start l q n in C.inner x (sub x m) q a b (rw (← e) (start-mem rs y (sub y k)));
  }

  -- records of pages that belong to no run are written
  pub shown-kept : {I : Image} (J : Image) → RunsShown rs I → J.first_run ≡ I.first_run
      → ((x : Run) → Mem x rs → (q : ℕ) → x.start ≤ q → q < x.start + x.len → J.links q ≡ I.links q) → RunsShown rs J
  shown-kept {I} J S first same = record {
    list = listed_kept I J 0 (starts rs) (unfold first_in pick in first) (λ q m. (pages q m, on q (mem-start rs q m))) S.list;
    heads = λ x m. heads_kept x.len (same x m x.start (omega arith) (omega (arith, C.some-page x m))) (S.heads x m);
    bodies = λ x m q a b. same x m q (omega arith) b ∙ S.bodies x m q a b;
  }
    where
      on : (q : ℕ) → (x : Run) × Mem x rs × (x.start ≡ q) → J.links q ≡ I.links q
      on q (x, m, e) = same x m q (omega arith) (omega (arith, C.some-page x m))

module _ {rs : List Run} (C : Clear rs) {J : Image} (S : RunsShown rs J) where
  -- pages around a run's first page
  pub near_next : (x : Run) → Mem x rs → ((J.links x.start).next.0 ≡ no_page) ⊎ Mem (J.links x.start).next.0 (starts rs)
  near_next x m =
      let k = start-mem rs x m in
      let e : (J.links x.start).next.0 ≡ next_in no_page x.start (starts rs) =
      sym (next-page J x.start (pages C x.start k)) ∙ S.list.nexts x.start (inr k) ∙ rw (ne_eqb (head 0) x.start (λ d. omega (arith, pages C x.start k))) in
      rw e (next_on no_page x.start (starts rs))

  pub near_prev : (x : Run) → Mem x rs → ((J.links x.start).prev.0 ≡ no_page) ⊎ Mem (J.links x.start).prev.0 (starts rs)
  near_prev x m = rw (S.list.prevs x.start (start-mem rs x m)) (prev_on no_page no_page x.start (starts rs) (start-mem rs x m))

  pub near_first : (first_in J 0 ≡ no_page) ⊎ Mem (first_in J 0) (starts rs)
  near_first = rw (sym (next-head J 0) ∙ S.list.nexts (head 0) (inl refl)) (go (starts rs))
    where
      go : (zs : List ℕ) → (head_or no_page zs ≡ no_page) ⊎ Mem (head_or no_page zs) zs
      go [] = inl refl
      go (z ∷ zs) = inr (inl refl)

  -- the run r leaves
  module _ (r : Run) (mr : Mem r rs) where
    pub left-off : (q : ℕ) → q < no_page → ¬ Mem q (starts rs) → (unlink J 0 (J.links r.start)).links q ≡ J.links q
    left-off q h out = unlink-off J 0 (starts rs) C.once (pages C) S.list q h out r.start (start-mem rs r mr)

    pub left-shown : (rs' : List Run) → starts rs' ≡ keep (others r.start) (starts rs) → ((x : Run) → Mem x rs' → Mem x rs)
        → RunsShown rs' (unlink J 0 (J.links r.start))
    left-shown rs' left sub = record {
      list = rw left (unlink-listed J 0 (starts rs) C.once (pages C) S.list r.start (start-mem rs r mr));
      heads = λ x m. (unlink_relinked J 0 (J.links r.start)).links x.start ∙ rw (S.heads x (sub x m));
      bodies = λ x m q a b.
          left-off q (C.low x (sub x m) q (omega arith) b) (C.inner x (sub x m) q a b) ∙ S.bodies x (sub x m) q a b;
    }

    -- n pages from t on take its place
    module _ (t n : ℕ) (page : t < no_page) (new : ¬ Mem t (starts rs)) where
      abbrev pub replaced : Image
      replaced = put J 0 (J.links r.start) t (plain 1 n no_page)

      pub put_list : Listed replaced 0 (replace r.start t (starts rs))
      put_list = put-listed J 0 (starts rs) C.once (pages C) S.list r.start t (plain 1 n no_page) (start-mem rs r mr) page new

      pub put-off_list : (q : ℕ) → q < no_page → ¬ Mem q (starts rs) → q ≢ t → replaced.links q ≡ J.links q
      put-off_list q h out d = put-off J 0 (starts rs) C.once (pages C) S.list q h out r.start t (plain 1 n no_page) (start-mem rs r mr) d

      pub put-new : Heads n (replaced.links t)
      put-new =
          (put_relinked J 0 (J.links r.start) t (plain 1 n no_page)).links t
          ∙ rw (upd_same J.links t (between (plain 1 n no_page) (J.links r.start).prev.0 (J.links r.start).next.0))

      pub put-head : (x : Run) → Mem x rs → Heads x.len (replaced.links x.start)
      put-head x m =
          (put_relinked J 0 (J.links r.start) t (plain 1 n no_page)).links x.start
          ∙ rw (
            upd_other J.links t (between (plain 1 n no_page) (J.links r.start).prev.0 (J.links r.start).next.0) x.start
                (λ e. new (rw (← e) (start-mem rs x m))),
            S.heads x m,
          )

  -- n pages from t on come in front
  module _ (t n : ℕ) (page : t < no_page) (new : ¬ Mem t (starts rs)) where
    abbrev pub fronted : Image
    fronted = push J 0 t (plain 1 n no_page)

    pub push_list : Listed fronted 0 (t ∷ starts rs)
    push_list = push-listed J 0 (starts rs) C.once (pages C) S.list t (plain 1 n no_page) page new

    pub push-off_list : (q : ℕ) → q < no_page → ¬ Mem q (starts rs) → q ≢ t → fronted.links q ≡ J.links q
    push-off_list q h out d = push-off J 0 (starts rs) C.once (pages C) S.list q h out t (plain 1 n no_page) d

    pub push-new : Heads n (fronted.links t)
    push-new =
        (push_relinked J 0 t (plain 1 n no_page)).links t ∙ rw (upd_same J.links t (between (plain 1 n no_page) no_page (first_in J 0)))

    pub push-head : (x : Run) → Mem x rs → Heads x.len (fronted.links x.start)
    push-head x m =
        (push_relinked J 0 t (plain 1 n no_page)).links x.start
        ∙ rw (upd_other J.links t (between (plain 1 n no_page) no_page (first_in J 0)) x.start (λ e. new (rw (← e) (start-mem rs x m))), S.heads x m)
