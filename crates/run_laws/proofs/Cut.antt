-- The front pages of a free run leave the list: what the image shows then.
use mathlib.Core.Path.{◌≡◌, refl, sym, ap, ◌∙◌, subst}
use mathlib.Core.Logic.{◌⊎◌, inl, inr, ◌≢◌}
use mathlib.Core.Bool.{Bool, true, false}
use mathlib.Core.Option.{some}
use mathlib.Core.List.{List}
use Prim.Native.Nat.{ℕ, suc, ◌+◌, ◌-◌, ◌≤◌, ◌<◌}
use native.Mathlib.Omega.{arith}
use borrow.Author.Tests.{eq-eqb, ne_eqb, lt-ltb, le-ltb}
use Rattle.base.specs.Tests.{pick}
use Rattle.base.specs.Functions.{upd, fill}
use Rattle.base.specs.Lists.{Mem}
use Rattle.base.specs.Links.{replace}
use Rattle.base.proofs.Cases.{clash, eq?, lt?, Out, in?}
use Rattle.base.proofs.Functions.{upd_same, upd_other, fill_in, fill_out}
use Rattle.records.specs.Layout.{no_page}
use Rattle.records.specs.declared.Links.{Links}
use Rattle.model.specs.State.{Page, taken, inside, Run, is_idle}
use Rattle.model.specs.Runs.{fit, carve, cut_front}
use Rattle.model.specs.WellFormed.{RunsOk}
use Rattle.model.proofs.Runs.{same_run, fit_found, remains, cut-mem, carve-from, carved}
use Rattle.image.specs.Image.{Image, set_all_links}
use Rattle.image.specs.Update.{set_free}
use Rattle.lists.specs.Mirror.{between}
use Rattle.lists.specs.Nodes.{first_in, unlink, put}
use Rattle.rules.specs.Drawn.{starts, page_links}
use Rattle.rules.proofs.Runs.{mem-start, starts-once, start-mem}
use Rattle.shows.specs.Shows.{Unlisted, ShowsOn, ShowsLinks}
use Rattle.run_extents.specs.Mirror.{plain}
use Rattle.run_laws.specs.OnImage.{back_on, cut_on, front_on, taken_on}
use Rattle.run_laws.specs.Scene.{Scene}
use Rattle.run_laws.proofs.Starts.{starts-carve}
use Rattle.run_laws.proofs.Shown.{body, RunsShown, start-once, start-free, busy_start, within, runs-shown, listed_kept, shows-runs}
use Rattle.run_laws.proofs.Surgery.{Kept, kept-both, kept-unlink, kept_put, kept_back, back_at, back-off, back-first, Heads, heads_kept, Clear, clear, shown-kept, left-off, left-shown, replaced, put_list, put-off_list, put-new, put-head}

module _ {g : ℕ → Bool} {rs : List Run} (ok : RunsOk g rs) (low : (q : ℕ) → g q ≡ true → q < no_page) {J : Image} (S : RunsShown rs J)
    (k : ℕ) (pos : 1 ≤ k) (r : Run) (found : fit k rs ≡ some r) where
  C : Clear rs
  C = clear ok low

  mr : Mem r rs
  mr = (fit_found k rs r found).0

  -- the run's first page tells its length
  pub run_is : (J.links r.start).run ≡ r.len
  run_is = ap (λ (l : Links). l.run) (S.heads r mr)

  -- a run of the new list
  new-run : (x : Run) → Mem x (carve k rs) → ((x ≡ remains k r) × (k < r.len)) ⊎ (Mem x rs × (x.start ≢ r.start))
  new-run x n = go (carve-from k rs r x found ok.once n)
    where
      go : Mem x (cut_front k r) ⊎ (Mem x rs × (x ≢ r)) → ((x ≡ remains k r) × (k < r.len)) ⊎ (Mem x rs × (x.start ≢ r.start))
      go (inl c) = inl (cut-mem k r x c)
      go (inr (c, d)) = inr (c, λ e. d (start-once ok x r c mr e))

  -- no page of r is a page of another run
  other_run : (x : Run) → Mem x rs → x.start ≢ r.start → (q : ℕ) → x.start ≤ q → q < x.start + x.len → r.start ≤ q → q < r.start + r.len → ⊥
  other_run x m d q a b u v = d (ap (λ (y : Run). y.start) (same_run (ok.sound x m) (ok.sound r mr) q a b u v))

  in_r : (q : ℕ) → r.start ≤ q → q < r.start + r.len → q < no_page
  in_r q a b = low q ((ok.sound r mr).all_free q a b)

  -- a rest stays
  module _ (h : k < r.len) where
    abbrev t : ℕ
    t = r.start + k

    abbrev n : ℕ
    n = r.len - k

    new : ¬ Mem t (starts rs)
    new = within ok r mr t (omega arith) (omega arith)

    t_low : t < no_page
    t_low = in_r t (omega arith) (omega arith)

    abbrev I₁ : Image
    I₁ = replaced C S r mr t n t_low new

    abbrev I₂ : Image
    I₂ = back_on I₁ t n

    put-starts : starts (carve k rs) ≡ replace r.start t (starts rs)
    put-starts = rw (starts-carve k rs r found (starts-once ok), lt-ltb k r.len h)

    -- pages of other runs and of those that are not free
    far : (q : ℕ) → q < no_page → ¬ Mem q (starts rs) → (r.start ≤ q → q < r.start + r.len → ⊥) → I₂.links q ≡ J.links q
    far q l out off =
        back-off I₁ t n q (λ b e. off (omega arith) (omega arith))
        ∙ put-off_list C S r mr t n t_low new q l out (λ e. off (omega arith) (omega arith))

    rest-shown : RunsShown (carve k rs) I₂
    rest-shown = record {
      list =
          listed_kept I₁ I₂ 0 (starts (carve k rs)) (unfold first_in pick in back-first I₁ t n) (λ q m. first-page q (mem-start (carve k rs) q m))
          (rw put-starts (put_list C S r mr t n t_low new));
      heads = λ x m. head x (new-run x m);
      bodies = λ x m q a b. inner x (new-run x m) q a b;
    }
      where
        not_last : (x : Run) → Mem x rs → x.start ≢ r.start → 1 < n → x.start ≢ t + (n - 1)
        not_last x m d b e = other_run x m d x.start (omega arith) (omega (arith, (ok.sound x m).some-page)) (omega arith) (omega arith)

        first-page : (q : ℕ) → (x : Run) × Mem x (carve k rs) × (x.start ≡ q) → (q < no_page) × (I₂.links q ≡ I₁.links q)
        first-page q (x, m, e) = go (new-run x m)
          where
            go : ((x ≡ remains k r) × (k < r.len)) ⊎ (Mem x rs × (x.start ≢ r.start)) → (q < no_page) × (I₂.links q ≡ I₁.links q)
            go (inl (c, _)) =
                let z : q ≡ t = sym e ∙ ap (λ (y : Run). y.start) c in
                (omega (arith, t_low), back-off I₁ t n q (λ b d. omega arith))
            go (inr (c, d)) =
                (rw (← e) (low x.start (start-free ok x.start (start-mem rs x c))), back-off I₁ t n q (λ b y. not_last x c d b (e ∙ y)))

        head : (x : Run) → ((x ≡ remains k r) × (k < r.len)) ⊎ (Mem x rs × (x.start ≢ r.start)) → Heads x.len (I₂.links x.start)
        head x (inl (e, _)) = rw e (heads_kept n (back-off I₁ t n t (λ b. omega arith)) (put-new C S r mr t n t_low new))
        head x (inr (m, d)) = heads_kept x.len (back-off I₁ t n x.start (not_last x m d)) (put-head C S r mr t n t_low new x m)

        rest : (q : ℕ) → t < q → q < t + n → I₂.links q ≡ body (remains k r) q
        rest q a b = go (eq? q (t + (n - 1)))
          where
            go : (q ≡ t + (n - 1)) ⊎ (q ≢ t + (n - 1)) → I₂.links q ≡ body (remains k r) q
            go (inl e) = unfold body pick in rw (eq-eqb (q + 1) (t + n) (omega arith)) (ap I₂.links e ∙ back_at I₁ t n (omega arith))
            go (inr e) =
                unfold body pick in
                rw (ne_eqb (q + 1) (t + n) (omega arith))
                (back-off I₁ t n q (λ _. e)
                ∙ put-off_list C S r mr t n t_low new q (in_r q (omega arith) (omega arith)) (within ok r mr q (omega arith) (omega arith)) (omega arith)
                ∙ S.bodies r mr q (omega arith) (omega arith) ∙ rw (ne_eqb (q + 1) (r.start + r.len) (omega arith)))

        inner : (x : Run) → ((x ≡ remains k r) × (k < r.len)) ⊎ (Mem x rs × (x.start ≢ r.start)) → (q : ℕ) → x.start < q → q < x.start + x.len → I₂.links q ≡ body x q
        inner x (inl (e, _)) q a b = rw e (rest q (rw e at a) (rw e at b))
        inner x (inr (m, d)) q a b =
            far q (low q ((ok.sound x m).all_free q (omega arith) b)) (within ok x m q a b) (other_run x m d q (omega arith) b) ∙ S.bodies x m q a b

  abbrev pub cut : Image
  cut = cut_on J r.start k (J.links r.start)

  cut-rest : (h : k < r.len) → cut ≡ I₂ h
  unfolding cut_on pick
  cut-rest h =
      rw (lt-ltb k (J.links r.start).run (omega (arith, run_is)))
      (ap (λ (m : ℕ). back_on (put J 0 (J.links r.start) (r.start + k) (plain 1 (m - k) no_page)) (r.start + k) (m - k)) run_is)

  cut-exact : r.len ≤ k → cut ≡ unlink J 0 (J.links r.start)
  unfolding cut_on pick
  cut-exact h = rw (le-ltb k (J.links r.start).run (omega (arith, run_is)))

  pub cut-shown : RunsShown (carve k rs) cut
  cut-shown = go (lt? k r.len)
    where
      go : (k < r.len) ⊎ (r.len ≤ k) → RunsShown (carve k rs) cut
      go (inl h) = subst (RunsShown (carve k rs)) (sym (cut-rest h)) (rest-shown h)
      go (inr h) =
          subst (RunsShown (carve k rs)) (sym (cut-exact h))
          (left-shown C S r mr (carve k rs) (rw (starts-carve k rs r found (starts-once ok), le-ltb k r.len h)) (λ x m. side x (new-run x m)))
        where
          side : (x : Run) → ((x ≡ remains k r) × (k < r.len)) ⊎ (Mem x rs × (x.start ≢ r.start)) → Mem x rs
          side x (inl (e, b)) = absurd (omega arith)
          side x (inr c) = c.0

  -- a page that is not free keeps its record
  pub cut_off : (q : ℕ) → q < no_page → g q ≡ false → cut.links q ≡ J.links q
  cut_off q l e = go (lt? k r.len)
    where
      go : (k < r.len) ⊎ (r.len ≤ k) → cut.links q ≡ J.links q
      go (inl h) = ap (λ (I : Image). I.links q) (cut-rest h) ∙ far h q l (busy_start ok q e) (λ a b. clash ((ok.sound r mr).all_free q a b) e)
      go (inr h) = ap (λ (I : Image). I.links q) (cut-exact h) ∙ left-off C S r mr q l (busy_start ok q e)

  pub cut-kept : Kept J cut
  cut-kept = go (lt? k r.len)
    where
      go : (k < r.len) ⊎ (r.len ≤ k) → Kept J cut
      go (inl h) = subst (Kept J) (sym (cut-rest h)) (kept-both (kept_put J _ _ _) (kept_back _ _ _))
      go (inr h) = subst (Kept J) (sym (cut-exact h)) (kept-unlink J _)

-- ---- page by page

-- the records of the k pages from a on, which are on no list, are written
pub shows-written : {P : ℕ} {page : ℕ → Page} {rs : List Run} {ls : ℕ → List ℕ} → Scene P page rs ls → {J : Image} (a k : ℕ)
    → ShowsOn (λ q. (q < P) × Out a k q) page rs ls J
    → ((q : ℕ) → a ≤ q → q < a + k → Unlisted rs ls q)
    → (f : ℕ → Links) → ((q : ℕ) → Out a k q → f q ≡ J.links q) → ((q : ℕ) → a ≤ q → q < a + k → f q ≡ page_links rs ls q (page q))
    → ShowsLinks P page rs ls (set_all_links J f)
shows-written {P} {page} {rs} {ls} T {J} a k S off f same new = record {
  free_list =
      listed_kept J (set_all_links J f) 0 (starts rs) (unfold first_in in refl)
      (λ q m. (omega (arith, T.few, T.idle_in q (start-free T.runs q m)), same q (out q (λ u v. (off q u v).no_run m) (in? a k q)))) S.free_list;
  class_list = λ c l.
      listed_kept J (set_all_links J f) (suc c) (ls c) (unfold first_in in refl)
      (λ q m. (omega (arith, T.few, (T.class_in c q l m).0), same q (out q (λ u v. (off q u v).no-class c l m) (in? a k q)))) (S.class_list c l);
  shape = λ q l. shaped q l (in? a k q);
  unlisted = λ q l u. plainly q l u (in? a k q);
}
  where
    out : (q : ℕ) → (a ≤ q → q < a + k → ⊥) → ((a ≤ q) × (q < a + k)) ⊎ Out a k q → Out a k q
    out q h (inl (u, v)) = absurd (h u v)
    out q h (inr o) = o

    shaped : (q : ℕ) → q < P → ((a ≤ q) × (q < a + k)) ⊎ Out a k q → f q ≡ between (page_links rs ls q (page q)) (f q).prev.0 (f q).next.0
    shaped q l (inl (u, v)) = rw (← new q u v)
    shaped q l (inr o) =
        subst (λ (m : Links). m ≡ between (page_links rs ls q (page q)) m.prev.0 m.next.0) (sym (same q o)) (S.shape q (l, o))

    plainly : (q : ℕ) → q < P → Unlisted rs ls q → ((a ≤ q) × (q < a + k)) ⊎ Out a k q → f q ≡ page_links rs ls q (page q)
    plainly q l u (inl (v, w)) = new q v w
    plainly q l u (inr o) = same q o ∙ S.unlisted q (l, o) u

module _ {P : ℕ} {page : ℕ → Page} {rs : List Run} {ls : ℕ → List ℕ} (T : Scene P page rs ls) {J : Image} (S : ShowsLinks P page rs ls J)
    (k : ℕ) (pos : 1 ≤ k) (r : Run) (found : fit k rs ≡ some r) where
  pub was_free : (q : ℕ) → r.start ≤ q → q < r.start + k → is_idle (page q) ≡ true
  was_free q a b = let (m, l) = fit_found k rs r found in (T.runs.sound r m).all_free q a (omega arith)

  pub in_pool : (q : ℕ) → is_idle (page q) ≡ true → q < no_page
  in_pool q i = omega (arith, T.idle_in q i, T.few)

  -- the header's count is changed first
  abbrev J₀ : Image
  J₀ = set_free J (J.free_pages - k)

  counted : RunsShown rs J₀
  counted = shown-kept (clear T.runs in_pool) J₀ (runs-shown T S T.idle_in) refl (λ x m q a b. refl)

  front_kept : Kept J₀ (front_on J r.start k)
  unfolding front_on
  front_kept = cut-kept T.runs in_pool counted k pos r found

  pub front_pages : (front_on J r.start k).free_pages ≡ J.free_pages - k
  front_pages = front_kept.free_pages

  pub front_class : (front_on J r.start k).class ≡ J.class
  front_class = front_kept.class

  pub front_map : (front_on J r.start k).map ≡ J.map
  front_map = front_kept.map

  -- the k pages are not free any more
  module _ (page' : ℕ → Page) (same : (q : ℕ) → Out r.start k q → page' q ≡ page q)
      (busy : (q : ℕ) → r.start ≤ q → q < r.start + k → is_idle (page' q) ≡ false) where
    runs' : RunsOk (λ j. is_idle (page' j)) (carve k rs)
    runs' = carved T.runs k pos r found busy (λ j o. ap is_idle (same j o))

    class_out : (c q : ℕ) → c ≤ 8 → Mem q (ls c) → Out r.start k q
    class_out c q l m = go (in? r.start k q)
      where
        go : ((r.start ≤ q) × (q < r.start + k)) ⊎ Out r.start k q → Out r.start k q
        go (inl (a, b)) = absurd (clash (was_free q a b) (T.class_in c q l m).1)
        go (inr o) = o

    pub front_scene : Scene P page' (carve k rs) ls
    front_scene = record {
      few = T.few;
      runs = runs';
      idle_in = λ q i. free_in_lem q i (in? r.start k q);
      class_in = λ c q l m. ((T.class_in c q l m).0, ap is_idle (same q (class_out c q l m)) ∙ (T.class_in c q l m).1);
    }
      where
        free_in_lem : (q : ℕ) → is_idle (page' q) ≡ true → ((r.start ≤ q) × (q < r.start + k)) ⊎ Out r.start k q → q < P
        free_in_lem q i (inl (a, b)) = absurd (clash i (busy q a b))
        free_in_lem q i (inr o) = T.idle_in q (ap is_idle (sym (same q o)) ∙ i)

    pub front_unlisted : (q : ℕ) → r.start ≤ q → q < r.start + k → Unlisted (carve k rs) ls q
    front_unlisted q a b = record {
      no_run = busy_start runs' q (busy q a b);
      no-class = λ c l m. clash (was_free q a b) (T.class_in c q l m).1;
    }

    pub front_shows : ShowsOn (λ q. (q < P) × Out r.start k q) page' (carve k rs) ls (front_on J r.start k)
    unfolding front_on
    front_shows =
        shows-runs T S page' (carve k rs) (front_on J r.start k) r.start k runs' (cut-shown T.runs in_pool counted k pos r found) same
        (λ q l o. l) (λ q o i. o) class_out front_class
        (λ q l i o. cut_off T.runs in_pool counted k pos r found q (omega (arith, T.few)) i)

  -- and become a taken run
  abbrev pub page₁ : ℕ → Page
  page₁ = upd (fill page r.start k inside) r.start (taken k)

  at-page₁ : (q : ℕ) → r.start ≤ q → q < r.start + k → ((q ≡ r.start) × (page₁ q ≡ taken k)) ⊎ ((q ≢ r.start) × (page₁ q ≡ inside))
  at-page₁ q a b = go (eq? q r.start)
    where
      go : (q ≡ r.start) ⊎ (q ≢ r.start) → ((q ≡ r.start) × (page₁ q ≡ taken k)) ⊎ ((q ≢ r.start) × (page₁ q ≡ inside))
      go (inl e) = inl (e, ap page₁ e ∙ upd_same _ r.start (taken k))
      go (inr d) = inr (d, upd_other _ r.start (taken k) q d ∙ fill_in page r.start k inside q a b)

  out-page₁ : (q : ℕ) → Out r.start k q → page₁ q ≡ page q
  out-page₁ q o = upd_other _ r.start (taken k) q (off_start o) ∙ fill_out page r.start k inside q o
    where
      off_start : Out r.start k q → q ≢ r.start
      off_start (inl h) = omega arith
      off_start (inr h) = omega arith

  busy₁ : (q : ℕ) → r.start ≤ q → q < r.start + k → is_idle (page₁ q) ≡ false
  busy₁ q a b = go (at-page₁ q a b)
    where
      go : ((q ≡ r.start) × (page₁ q ≡ taken k)) ⊎ ((q ≢ r.start) × (page₁ q ≡ inside)) → is_idle (page₁ q) ≡ false
      go (inl (_, e)) = rw e
      go (inr (_, e)) = rw e

  pub taken_scene : Scene P page₁ (carve k rs) ls
  taken_scene = front_scene page₁ out-page₁ busy₁

  abbrev F : ℕ → Links
  F = (front_on J r.start k).links

  pub taken-shows : ShowsLinks P page₁ (carve k rs) ls (taken_on J r.start k)
  unfolding taken_on
  taken-shows =
      shows-written taken_scene r.start k (front_shows page₁ out-page₁ busy₁) (front_unlisted page₁ out-page₁ busy₁)
      (upd (fill F r.start k (plain 4 0 no_page)) r.start (plain 3 k no_page)) kept new
    where
      kept : (q : ℕ) → Out r.start k q → upd (fill F r.start k (plain 4 0 no_page)) r.start (plain 3 k no_page) q ≡ F q
      kept q o = upd_other _ r.start (plain 3 k no_page) q (off_start o) ∙ fill_out F r.start k (plain 4 0 no_page) q o
        where
          off_start : Out r.start k q → q ≢ r.start
          off_start (inl h) = omega arith
          off_start (inr h) = omega arith

      new : (q : ℕ) → r.start ≤ q → q < r.start + k
          → upd (fill F r.start k (plain 4 0 no_page)) r.start (plain 3 k no_page) q ≡ page_links (carve k rs) ls q (page₁ q)
      new q a b = go (at-page₁ q a b)
        where
          go : ((q ≡ r.start) × (page₁ q ≡ taken k)) ⊎ ((q ≢ r.start) × (page₁ q ≡ inside))
              → upd (fill F r.start k (plain 4 0 no_page)) r.start (plain 3 k no_page) q ≡ page_links (carve k rs) ls q (page₁ q)
          go (inl (d, e)) = rw e (ap (upd (fill F r.start k (plain 4 0 no_page)) r.start (plain 3 k no_page)) d ∙ upd_same _ r.start (plain 3 k no_page))
          go (inr (d, e)) = rw e (upd_other _ r.start (plain 3 k no_page) q d ∙ fill_in F r.start k (plain 4 0 no_page) q a b)

  pub taken-pages : (taken_on J r.start k).free_pages ≡ J.free_pages - k
  unfolding taken_on
  taken-pages = front_pages

  pub taken-class : (taken_on J r.start k).class ≡ J.class
  unfolding taken_on
  taken-class = front_class

  pub taken-map : (taken_on J r.start k).map ≡ J.map
  unfolding taken_on
  taken-map = front_map
