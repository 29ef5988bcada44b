-- On the drawing of a well-formed state the operations on free runs draw the model's next state.
use mathlib.Core.Path.{◌≡◌, refl, sym, ap, ◌∙◌}
use mathlib.Core.Logic.{◌⊎◌, inl, inr, ⊎_elim, ◌≢◌}
use mathlib.Core.Bool.{true, false}
use mathlib.Core.Option.{some}
use mathlib.Core.List.{List}
use Prim.Native.Nat.{ℕ, ◌+◌, ◌-◌, ◌*◌, ◌/◌, ◌≤◌, ◌<◌}
use native.Mathlib.Omega.{arith}
use lib.ListN.{length}
use Rattle.base.specs.Functions.{upd, fill}
use Rattle.base.specs.Lists.{Mem}
use Rattle.base.proofs.Cases.{clash, never, eq?, Out, in?}
use Rattle.base.proofs.Count.{count_bound}
use Rattle.base.proofs.Functions.{upd_same, upd_other, fill_in, fill_out}
use Rattle.records.specs.Layout.{no_page}
use Rattle.records.specs.declared.ClassRecord.{ClassRecord}
use Rattle.model.specs.State.{Page, idle, slab, taken, inside, edge, Run, State, is_idle}
use Rattle.model.specs.Runs.{fit, carve, starts_at, ends_at, join_runs}
use Rattle.model.specs.WellFormed.{WellFormed}
use Rattle.model.specs.Calls.{alloc_run, release}
use Rattle.model.proofs.Table.{in_table, taken_ok}
use Rattle.model.proofs.Lists.{open_is}
use Rattle.model.proofs.AllocRun.{run-well}
use Rattle.model.proofs.FreeRun.{released-well}
use Rattle.image.specs.Image.{Image, paint, Same}
use Rattle.image.proofs.Paint.{paint_ext}
use Rattle.rules.specs.Bytes.{pages_in}
use Rattle.rules.specs.Rules.{free_in}
use Rattle.rules.specs.Drawn.{state_image}
use Rattle.rules.proofs.Fits.{state-fits}
use Rattle.shows.specs.Shows.{ShowsOn, ShowsLinks}
use Rattle.shows.proofs.Shows.{has-links, state-shows}
use Rattle.drawing.specs.Draw.{mapped, draw}
use Rattle.drawing.proofs.Mapped.{length-mapped}
use Rattle.run_extents.specs.Mirror.{fit_in, run_taken}
use Rattle.run_neighbours.specs.Mirror.{pages_released}
use Rattle.run_laws.specs.OnImage.{start_or, taken_on, released_on}
use Rattle.run_laws.specs.Scene.{Scene}
use Rattle.run_laws.proofs.Shown.{state_scene, shows_fewer, first_run}
use Rattle.run_laws.proofs.Cut.{was_free, taken-shows, taken-pages, taken-class, taken-map}
use Rattle.run_laws.proofs.Join.{released-shows, released-pages, released-class, released-map}
use Rattle.run_laws.proofs.Fit.{fit-shown}
use Rattle.run_laws.proofs.Laws.{taken-paint, released-paint}
use Rattle.run_laws.proofs.Counts.{free_fewer}
use Rattle.run_laws.proofs.Alike.{no_class, Alike, same_class, same_map, same_mapped}

module _ (w : ℕ) (wide : 2 ≤ w) (narrow : w ≤ 255) {m : State} (W : WellFormed m) (small : m.size ≤ 4096) (s : List ℕ) (size : m.size ≡ pages_in w s) where
  few : m.size ≤ no_page
  few = omega arith

  T : Scene m.size m.page m.runs m.lists
  T = state_scene W few

  S : ShowsLinks m.size m.page m.runs m.lists (state_image m)
  S = state-shows m W few

  room : 1 + 9 * w + 2 * m.size ≤ length (mapped w m s) / 8
  room = rw (length-mapped w m s) (omega (arith, W.some-page))

  pub fit_drawn : (k : ℕ) → fit_in w (draw w s m) m.size k ≡ start_or (fit k m.runs)
  unfolding draw
  fit_drawn k = fit-shown w m.size wide narrow (mapped w m s) room T S (state-fits W small) k

  -- ---- a run is taken
  module _ (k : ℕ) (pos : 1 ≤ k) (r : Run) (found : fit k m.runs ≡ some r) where
    abbrev page₁ : ℕ → Page
    page₁ = upd (fill m.page r.start k inside) r.start (taken k)

    abbrev m₁ : State
    m₁ = record { size = m.size; page = page₁; runs = carve k m.runs; lists = m.lists; tally = m.tally }

    W₁ : WellFormed m₁
    W₁ = unfold alloc_run in run-well m W k pos r found

    idle_in : (q : ℕ) → r.start ≤ q → q < r.start + k → is_idle (m.page q) ≡ true
    idle_in = was_free T S k pos r found

    -- the k pages become pages that are not free
    new₁ : (q : ℕ) → r.start ≤ q → q < r.start + k → (is_idle (page₁ q) ≡ false) × (no_class (page₁ q) ≡ true)
    new₁ q a b = go (eq? q r.start)
      where
        go : (q ≡ r.start) ⊎ (q ≢ r.start) → (is_idle (page₁ q) ≡ false) × (no_class (page₁ q) ≡ true)
        go (inl e) = let d : page₁ q ≡ taken k = ap page₁ e ∙ upd_same _ r.start (taken k) in rw d (refl, refl)
        go (inr e) =
            let d : page₁ q ≡ inside = upd_other _ r.start (taken k) q e ∙ fill_in m.page r.start k inside q a b in
            rw d (refl, refl)

    out₁ : (q : ℕ) → Out r.start k q → page₁ q ≡ m.page q
    out₁ q o = upd_other _ r.start (taken k) q (apart o) ∙ fill_out m.page r.start k inside q o
      where
        apart : Out r.start k q → q ≢ r.start
        apart (inl h) = omega arith
        apart (inr h) = omega arith

    idle-plain : (x : Page) → is_idle x ≡ true → no_class x ≡ true
    idle-plain idle e = refl
    idle-plain (slab c n) e = absurd (clash e refl)
    idle-plain (taken n) e = refl
    idle-plain inside e = refl
    idle-plain edge e = refl

    alike₁ : Alike m.page page₁
    alike₁ q = go (in? r.start k q)
      where
        go : ((r.start ≤ q) × (q < r.start + k)) ⊎ Out r.start k q → (page₁ q ≡ m.page q) ⊎ ((no_class (m.page q) ≡ true) × (no_class (page₁ q) ≡ true))
        go (inl (a, b)) = inr (idle-plain (m.page q) (idle_in q a b), (new₁ q a b).1)
        go (inr o) = inl (out₁ q o)

    taken_free : free_in m.page m.size - k ≡ free_in page₁ m.size
    taken_free =
        let end : r.start + k ≤ m.size = omega (arith, T.idle_in (r.start + k - 1) (idle_in (r.start + k - 1) (omega arith) (omega arith))) in
        omega (arith, free_fewer m.page page₁ r.start k m.size idle_in (λ q a b. (new₁ q a b).0) out₁ end)

    abbrev J₁ : Image
    J₁ = taken_on (state_image m) r.start k

    shows₁ : ShowsLinks m.size page₁ (carve k m.runs) m.lists J₁
    shows₁ = taken-shows T S k pos r found

    same₁ : Same m.size J₁ (state_image m₁)
    unfolding state_image
    same₁ = record {
      free_pages = taken-pages T S k pos r found ∙ taken_free;
      first_run = first_run shows₁;
      class = λ c l. ap (λ (f : ℕ → ClassRecord). f c) (taken-class T S k pos r found) ∙ sym (same_class m page₁ (carve k m.runs) alike₁ c);
      map = λ q l. ap (λ (f : ℕ → ℕ). f q) (taken-map T S k pos r found) ∙ sym (same_map m page₁ (carve k m.runs) alike₁ q);
      links = has-links W₁.table W₁.free_runs W₁.class-lists few shows₁;
    }

    pub run_taken_lem : run_taken w (draw w s m) r.start k ≡ draw w s (alloc_run m k (some r)).after
    unfolding draw alloc_run
    run_taken_lem =
        taken-paint w m.size wide narrow T (state-fits W small) S k pos r found (mapped w m s) room
        ∙ paint_ext w m.size J₁ (state_image m₁) (mapped w m s) same₁
        ∙ ap (paint w m.size (state_image m₁)) (sym (same_mapped m page₁ (carve k m.runs) alike₁ w s))

  -- ---- a taken run is released
  module _ (p k : ℕ) (was : m.page p ≡ taken k) where
    pos : 1 ≤ k
    pos = taken_ok W.table was

    abbrev page₂ : ℕ → Page
    page₂ = fill m.page p k idle

    abbrev m₂ : State
    m₂ = record { size = m.size; page = page₂; runs = join_runs p k m.runs; lists = m.lists; tally = m.tally }

    W₂ : WellFormed m₂
    W₂ = unfold release in released-well m W p k was

    -- the k pages of the run
    old : (q : ℕ) → p ≤ q → q < p + k → (m.page q ≡ taken k) ⊎ (m.page q ≡ inside)
    old q a b = go (eq? q p)
      where
        go : (q ≡ p) ⊎ (q ≢ p) → (m.page q ≡ taken k) ⊎ (m.page q ≡ inside)
        go (inl e) = inl (ap m.page e ∙ was)
        go (inr e) = inr (W.table.inner p k q was (omega arith) b)

    busy : (q : ℕ) → p ≤ q → q < p + k → is_idle (m.page q) ≡ false
    busy q a b = ⊎_elim (λ (e : m.page q ≡ taken k). rw e) (λ (e : m.page q ≡ inside). rw e) (old q a b)

    no-slab : (q : ℕ) → p ≤ q → q < p + k → no_class (m.page q) ≡ true
    no-slab q a b = ⊎_elim (λ (e : m.page q ≡ taken k). rw e) (λ (e : m.page q ≡ inside). rw e) (old q a b)

    off : (c q : ℕ) → c ≤ 8 → p ≤ q → q < p + k → ¬ Mem q (m.lists c)
    off c q l a b n = let (x, e, o) = open_is c (m.page q) (W.class-lists.holds c q n) in clash (no-slab q a b) (rw e)

    end : p + k ≤ m.size
    end =
        omega (
          arith,
          pos,
          in_table W.table (p + k - 1)
              (⊎_elim (λ (e : m.page (p + k - 1) ≡ taken k) d. never (cc)) (λ (e : m.page (p + k - 1) ≡ inside) d. never (cc))
              (old (p + k - 1) (omega (arith, pos)) (omega (arith, pos)))),
        )

    alike₂ : Alike m.page page₂
    alike₂ q = go (in? p k q)
      where
        go : ((p ≤ q) × (q < p + k)) ⊎ Out p k q → (page₂ q ≡ m.page q) ⊎ ((no_class (m.page q) ≡ true) × (no_class (page₂ q) ≡ true))
        go (inl (a, b)) = inr (no-slab q a b, rw (fill_in m.page p k idle q a b))
        go (inr o) = inl (fill_out m.page p k idle q o)

    released-free : free_in m.page m.size + k ≡ free_in page₂ m.size
    released-free =
        free_fewer page₂ m.page p k m.size (λ q a b. ap is_idle (fill_in m.page p k idle q a b)) busy (λ q o. sym (fill_out m.page p k idle q o)) end

    S₂ : ShowsOn (λ q. (q < m.size) × Out p k q) m.page m.runs m.lists (state_image m)
    S₂ = shows_fewer S (λ q o. o.0)

    abbrev J₂ : Image
    J₂ = released_on (state_image m) p k (ends_at p m.runs) (starts_at (p + k) m.runs)

    shows₂ : ShowsLinks m.size page₂ (join_runs p k m.runs) m.lists J₂
    shows₂ = released-shows T p k S₂ pos end busy off

    same₂ : Same m.size J₂ (state_image m₂)
    unfolding state_image
    same₂ = record {
      free_pages = released-pages T p k S₂ pos end busy off ∙ released-free;
      first_run = first_run shows₂;
      class = λ c l. ap (λ (f : ℕ → ClassRecord). f c) (released-class T p k S₂ pos end busy off) ∙ sym (same_class m page₂ (join_runs p k m.runs) alike₂ c);
      map = λ q l. ap (λ (f : ℕ → ℕ). f q) (released-map T p k S₂ pos end busy off) ∙ sym (same_map m page₂ (join_runs p k m.runs) alike₂ q);
      links = has-links W₂.table W₂.free_runs W₂.class-lists few shows₂;
    }

    pub run-released : pages_released w (draw w s m) m.size p k ≡ draw w s (release m p k)
    unfolding draw release
    run-released =
        released-paint w m.size wide narrow T (state-fits W small) p k S₂ pos end busy off (λ q l e. omega (arith, W.table.ends q e)) most (mapped w m s) room
        ∙ paint_ext w m.size J₂ (state_image m₂) (mapped w m s) same₂
        ∙ ap (paint w m.size (state_image m₂)) (sym (same_mapped m page₂ (join_runs p k m.runs) alike₂ w s))
      where
        most : (state_image m).free_pages + k < 65536
        most = unfold state_image free_in in omega (arith, end, count_bound (λ j. is_idle (m.page j)) m.size)
