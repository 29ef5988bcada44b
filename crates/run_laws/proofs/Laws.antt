-- The operations on free runs, on the bytes of an image that shows them.
use mathlib.Core.Path.{◌≡◌, refl, sym, ◌∙◌}
use mathlib.Core.Logic.{◌⊎◌, inl, inr, ◌≢◌}
use mathlib.Core.Bool.{Bool, true, false}
use mathlib.Core.Option.{some}
use mathlib.Core.List.{List}
use Prim.Native.Nat.{ℕ, ◌+◌, ◌-◌, ◌*◌, ◌/◌, ◌≤◌, ◌<◌}
use native.Mathlib.Omega.{arith}
use lib.ListN.{length}
use borrow.Author.Tests.{eq-eqb, ne_eqb, lt-ltb, le-ltb}
use Rattle.base.specs.Tests.{pick}
use Rattle.base.specs.Lists.{Mem}
use Rattle.base.proofs.Cases.{clash, bool?, eq?, lt?, Out}
use Rattle.records.specs.Layout.{no_page}
use Rattle.records.specs.declared.Links.{Links}
use Rattle.records.specs.Page.{links_at}
use Rattle.model.specs.State.{Page, idle, slab, taken, inside, edge, Run, is_idle}
use Rattle.model.specs.Runs.{fit, end, starts_at, ends_at}
use Rattle.model.specs.WellFormed.{RunsOk}
use Rattle.model.proofs.Runs.{fit_found, Keyed, keyed, starts_at_lem, ends_at_lem}
use Rattle.image.specs.Image.{Image, paint}
use Rattle.image.specs.Update.{set_free}
use Rattle.image.proofs.Paint.{links-shown}
use Rattle.image.proofs.Fits.{Fits, fits-free, fits-links}
use Rattle.lists.proofs.Paint.{Maybe}
use Rattle.rules.specs.Drawn.{starts, page_links}
use Rattle.shows.specs.Shows.{ShowsOn, ShowsLinks}
use Rattle.run_extents.specs.Mirror.{wrap, plain, front_off, run_taken}
use Rattle.run_neighbours.specs.Mirror.{len_from, run_from, right_len, len_to, run_to, left_len, pages_released}
use Rattle.run_laws.specs.OnImage.{front_on, taken_on, released_on}
use Rattle.run_laws.specs.Scene.{Scene}
use Rattle.run_laws.proofs.Shown.{body, RunsShown, start-free, runs-shown}
use Rattle.run_laws.proofs.Surgery.{Clear, clear, near_next, near_prev}
use Rattle.run_laws.proofs.Cut.{run_is, in_pool}
use Rattle.run_laws.proofs.Join.{free-low, free_on, counted, a_fits, b_fits, close_right, close_left, close_first}
use Rattle.run_laws.proofs.Paint.{Near, Joins, fits-fill, plain_fits, cut_fits, more_paint, front_painted, taken_painted, join-paint}

-- ---- the lengths that a release reads

len_from-none : (l : Links) → 2 ≤ l.kind → len_from l ≡ 0
unfolding len_from pick
len_from-none l h = rw (ne_eqb l.kind 1 (omega arith))

len_to-none : (l : Links) (p : ℕ) → 2 ≤ l.kind → len_to l p ≡ 0
unfolding len_to pick
len_to-none l p h = rw (ne_eqb l.kind 1 (omega arith), ne_eqb l.kind 0 (omega arith))

busy_kind : (rs : List Run) (ls : ℕ → List ℕ) (q : ℕ) (x : Page) → is_idle x ≡ false → x ≢ edge → 2 ≤ (page_links rs ls q x).kind
busy_kind rs ls q idle i e = absurd (clash refl i)
busy_kind rs ls q (slab c m) i e = omega arith
busy_kind rs ls q (taken n) i e = omega arith
busy_kind rs ls q inside i e = omega arith
busy_kind rs ls q edge i e = absurd (e refl)

module _ {g : ℕ → Bool} {rs : List Run} (ok : RunsOk g rs) {J : Image} (R : RunsShown rs J) where
  -- no run ends right after a page that is not free, and none starts in it
  no-left : (p q : ℕ) → q + 1 ≡ p → g q ≡ false → ends_at p rs ≡ 0
  unfolding Keyed
  no-left p q e i = go (keyed end p rs)
    where
      go : Keyed end p rs (ends_at p rs) → ends_at p rs ≡ 0
      go (inl (x, m, d, _)) = absurd (clash ((ok.sound x m).all_free q (omega (arith, (ok.sound x m).some-page)) (omega arith)) i)
      go (inr (z, _)) = z

  no_right : (q : ℕ) → g q ≡ false → starts_at q rs ≡ 0
  unfolding Keyed
  no_right q i = go (keyed (λ r. r.start) q rs)
    where
      go : Keyed (λ r. r.start) q rs (starts_at q rs) → starts_at q rs ≡ 0
      go (inl (x, m, d, _)) = absurd (clash ((ok.sound x m).all_free q (omega arith) (omega (arith, (ok.sound x m).some-page))) i)
      go (inr (z, _)) = z

  -- the run that ends in page q, right before p
  some_left : (p q : ℕ) → q + 1 ≡ p → g q ≡ true → g p ≡ false → len_to (J.links q) p ≡ ends_at p rs
  unfolding len_to pick body
  some_left p q e i f = let (x, m, a, b) = ok.covers q i in go x m a b (lt? p (x.start + x.len)) (eq? q x.start)
    where
      go : (x : Run) → Mem x rs → x.start ≤ q → q < x.start + x.len → (p < x.start + x.len) ⊎ (x.start + x.len ≤ p) → (q ≡ x.start) ⊎ (q ≢ x.start)
          → len_to (J.links q) p ≡ ends_at p rs
      go x m a b (inl h) _ = absurd (clash ((ok.sound x m).all_free p (omega arith) h) f)
      go x m a b (inr h) (inl d) =
          let z : x.start + x.len ≡ p = omega arith in
          let n : ends_at p rs ≡ 1 = rw (← z) (ends_at_lem ok x m ∙ omega arith) in
          rw (d, R.heads x m, n)
      go x m a b (inr h) (inr d) =
          let z : x.start + x.len ≡ p = omega arith in
          let n : ends_at p rs ≡ x.len = rw (← z) (ends_at_lem ok x m) in
          rw (R.bodies x m q (omega arith) b, eq-eqb (q + 1) (x.start + x.len) (omega arith), n) (omega arith)

  -- the run that starts in page q, right after a page that is not free
  some_right : (q : ℕ) → g q ≡ true → ((j : ℕ) → j + 1 ≡ q → g j ≡ false) → len_from (J.links q) ≡ starts_at q rs
  unfolding len_from pick
  some_right q i f = let (x, m, a, b) = ok.covers q i in go x m a b (lt? x.start q)
    where
      go : (x : Run) → Mem x rs → x.start ≤ q → q < x.start + x.len → (x.start < q) ⊎ (q ≤ x.start) → len_from (J.links q) ≡ starts_at q rs
      go x m a b (inl h) = absurd (clash ((ok.sound x m).all_free (q - 1) (omega arith) (omega arith)) (f (q - 1) (omega arith)))
      go x m a b (inr h) =
          let d : q ≡ x.start = omega arith in
          rw (d, R.heads x m) (sym (starts_at_lem ok x m))

module _ (w P : ℕ) (wide : 2 ≤ w) (narrow : w ≤ 255) {page : ℕ → Page} {rs : List Run} {ls : ℕ → List ℕ} (T : Scene P page rs ls) {J : Image} (F : Fits P J) where
  maybe : (v : ℕ) → (v ≡ no_page) ⊎ Mem v (starts rs) → Maybe P v
  maybe v (inl e) = inl e
  maybe v (inr m) = inr (T.idle_in v (start-free T.runs v m))

  -- ---- pages taken
  module _ (S : ShowsLinks P page rs ls J) (k : ℕ) (pos : 1 ≤ k) (r : Run) (found : fit k rs ≡ some r) where
    mr : Mem r rs
    mr = (fit_found k rs r found).0

    R : RunsShown rs J
    R = runs-shown T S T.idle_in

    C : Clear rs
    C = clear T.runs (in_pool T S k pos r found)

    near : Near P (J.links r.start)
    near = record { prev = maybe _ (near_prev C R r mr); next = maybe _ (near_next C R r mr) }

    within : r.start + r.len ≤ P
    within =
        let l = C.some-page r mr in
        omega (arith, T.idle_in (r.start + r.len - 1) ((T.runs.sound r mr).all_free (r.start + r.len - 1) (omega arith) (omega arith)))

    run-within : r.start + (J.links r.start).run ≤ P
    run-within = rw (run_is T.runs (in_pool T S k pos r found) R k pos r found) within

    pub front_fits : Fits P (front_on J r.start k)
    unfolding front_on
    front_fits =
        cut_fits w P wide narrow T.few (fits-free F (J.free_pages - k) (omega (arith, F.free_pages))) r.start k (J.links r.start) near run-within

    pub taken-fits : Fits P (taken_on J r.start k)
    unfolding taken_on
    taken-fits =
        fits-links (fits-fill w P wide narrow T.few front_fits r.start k (plain 4 0 no_page) (plain_fits 4 0 no_page (omega arith) (omega arith) (omega arith)))
        r.start (plain 3 k no_page) (λ u. plain_fits 3 k no_page (omega arith) (omega (arith, within, T.few, (fit_found k rs r found).1)) (omega arith))

    module _ (s : List ℕ) (room : 1 + 9 * w + 2 * P ≤ length s / 8) where
      pub front_paint : front_off w (paint w P J s) r.start k ≡ paint w P (front_on J r.start k) s
      front_paint = front_painted w P wide narrow T.few s room F r.start k (omega (arith, within, C.some-page r mr)) near run-within

      pub taken-paint : run_taken w (paint w P J s) r.start k ≡ paint w P (taken_on J r.start k) s
      taken-paint =
          taken_painted w P wide narrow T.few s room F r.start k (omega (arith, within, C.some-page r mr)) (omega (arith, within, (fit_found k rs r found).1))
          near run-within

  -- ---- pages released
  module _ (p k : ℕ) (S : ShowsOn (λ q. (q < P) × Out p k q) page rs ls J) (pos : 1 ≤ k) (in_size : p + k ≤ P)
      (busy : (q : ℕ) → p ≤ q → q < p + k → is_idle (page q) ≡ false)
      (off : (c q : ℕ) → c ≤ 8 → p ≤ q → q < p + k → ¬ Mem q (ls c))
      (solid : (q : ℕ) → q < P → page q ≢ edge)
      (few : J.free_pages + k < 65536) where
    abbrev a : ℕ
    a = ends_at p rs

    abbrev b : ℕ
    b = starts_at (p + k) rs

    low : (q : ℕ) → is_idle (page q) ≡ true → q < no_page
    low = free-low T p k S pos in_size busy off

    R₀ : RunsShown rs (set_free J (J.free_pages + k))
    R₀ = counted T p k S pos in_size busy off

    R₁ : RunsShown rs J
    R₁ = runs-shown T S (free_on T p k S pos in_size busy off)

    top : p + k ≤ no_page
    top = omega (arith, T.few)

    joins : Joins P (set_free J (J.free_pages + k)) p k a b
    joins = record {
      some = pos;
      before = a_fits T.runs low R₀ p k pos busy top;
      after = b_fits T.runs low R₀ p k pos busy top P T.idle_in in_size;
      near_right = λ d. let (x, y) = close_right T.runs low R₀ p k pos busy top d in record { prev = maybe _ x; next = maybe _ y };
      near_left = λ d. let (x, y) = close_left T.runs low R₀ p k pos busy top d in record { prev = maybe _ x; next = maybe _ y };
      near_first = maybe _ (close_first T.runs low R₀ p k pos busy top);
    }

    -- a page beside the k pages that is not free
    beside : (q : ℕ) → q < P → Out p k q → is_idle (page q) ≡ false → 2 ≤ (J.links q).kind
    beside q l o i = rw (S.shape q (l, o)) (busy_kind rs ls q (page q) i (solid q l))

    module _ (s : List ℕ) (room : 1 + 9 * w + 2 * P ≤ length s / 8) where
      read : (q : ℕ) → q < P → links_at w (paint w P J s) q ≡ J.links q
      read q l = links-shown w P wide J s room q l (F.links q l)

      left-read : left_len w (paint w P J s) p ≡ a
      unfolding left_len run_to pick
      left-read = go (lt? 0 p)
        where
          side : 0 < p → (is_idle (page (p - 1)) ≡ true) ⊎ (is_idle (page (p - 1)) ≡ false) → len_to (J.links (p - 1)) p ≡ a
          side h (inl i) = some_left T.runs R₁ p (p - 1) (omega arith) i (busy p (omega arith) (omega arith))
          side h (inr i) =
              len_to-none (J.links (p - 1)) p (beside (p - 1) (omega arith) (inl (omega arith)) i) ∙ sym (no-left T.runs R₁ p (p - 1) (omega arith) i)

          go : (0 < p) ⊎ (p ≤ 0) → left_len w (paint w P J s) p ≡ a
          go (inl h) = rw (lt-ltb 0 p h, read (p - 1) (omega arith)) (side h (bool? (is_idle (page (p - 1)))))
          go (inr h) = rw (le-ltb 0 p h) (omega (arith, a_fits T.runs low R₀ p k pos busy top))

      right_read : right_len w (paint w P J s) P (p + k) ≡ b
      unfolding right_len run_from pick
      right_read = go (lt? (p + k) P)
        where
          side : p + k < P → (is_idle (page (p + k)) ≡ true) ⊎ (is_idle (page (p + k)) ≡ false) → len_from (J.links (p + k)) ≡ b
          side h (inl i) = some_right T.runs R₁ (p + k) i (λ j e. busy j (omega arith) (omega arith))
          side h (inr i) = len_from-none (J.links (p + k)) (beside (p + k) h (inr (omega arith)) i) ∙ sym (no_right T.runs R₁ (p + k) i)

          go : (p + k < P) ⊎ (P ≤ p + k) → right_len w (paint w P J s) P (p + k) ≡ b
          go (inl h) = rw (lt-ltb (p + k) P h, read (p + k) h) (side h (bool? (is_idle (page (p + k)))))
          go (inr h) = rw (le-ltb (p + k) P h) (omega (arith, joins.after))

      pub released-paint : pages_released w (paint w P J s) P p k ≡ paint w P (released_on J p k a b) s
      unfolding pages_released released_on
      released-paint =
          let e : wrap (p + k) ≡ p + k = omega (arith, T.few) in
          rw (e, left-read, right_read, more_paint w P wide narrow T.few s room F k few)
          (join-paint w P wide narrow T.few s room (fits-free F (J.free_pages + k) few) p k a b joins)
