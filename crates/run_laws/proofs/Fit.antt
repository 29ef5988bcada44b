-- First fit on the bytes finds the first run of the list that is long enough.
use mathlib.Core.Path.{◌≡◌, refl, sym, ap, ◌∙◌}
use mathlib.Core.Logic.{inl, inr, ◌≢◌}
use mathlib.Core.Bool.{Bool, true, false, cond}
use mathlib.Core.Option.{some}
use mathlib.Core.List.{List, [], ◌∷◌}
use Prim.Native.Nat.{ℕ, zero, suc, ◌+◌, ◌*◌, ◌/◌, ◌≤◌, ◌<◌}
use native.Mathlib.Omega.{arith}
use lib.Dec.{leb}
use lib.ListN.{length}
use borrow.Author.Tests.{eq-eqb, ne_eqb}
use Rattle.base.specs.Tests.{pick}
use Rattle.base.specs.Lists.{Mem, NoDup}
use Rattle.base.specs.Links.{head_or, next_in}
use Rattle.base.proofs.Count.{count_bound}
use Rattle.base.proofs.Pigeonhole.{length-count}
use Rattle.records.specs.Layout.{no_page}
use Rattle.records.specs.declared.Header.{Header}
use Rattle.records.specs.declared.Links.{Links}
use Rattle.records.specs.Header.{header_at}
use Rattle.records.specs.Page.{links_at}
use Rattle.model.specs.State.{Page, Run, is_idle}
use Rattle.model.specs.Runs.{fit}
use Rattle.image.specs.Image.{Image, paint}
use Rattle.image.proofs.Paint.{links-shown, header_shown}
use Rattle.image.proofs.Fits.{Fits, header_fits}
use Rattle.lists.specs.Nodes.{head, first_in}
use Rattle.lists.proofs.Laws.{next-page, next-head}
use Rattle.rules.specs.Drawn.{starts}
use Rattle.rules.proofs.Runs.{starts-once, start-mem}
use Rattle.shows.specs.Shows.{ShowsLinks}
use Rattle.run_extents.specs.Mirror.{fit_from, fit_in}
use Rattle.run_laws.specs.OnImage.{start_or}
use Rattle.run_laws.specs.Scene.{Scene}
use Rattle.run_laws.proofs.Shown.{RunsShown, start-free, runs-shown}

-- a walk along a list of runs, with fuel for all of them
walk : (w : ℕ) (s : List ℕ) (k : ℕ) (rs : List Run) → NoDup (starts rs) →
    ((x : Run) → Mem x rs → (x.start ≢ no_page) × ((links_at w s x.start).run ≡ x.len)) →
    ((q : ℕ) → Mem q (starts rs) → (links_at w s q).next.0 ≡ next_in no_page q (starts rs)) →
    (fuel : ℕ) → length (starts rs) ≤ fuel → fit_from w s fuel k (head_or no_page (starts rs)) ≡ start_or (fit k rs)
unfolding fit_from pick
walk w s k [] once run next zero h = refl
walk w s k [] once run next (suc n) h = refl
walk w s k (x ∷ rs) once run next zero h = absurd (omega arith)
walk w s k (x ∷ rs) once run next (suc n) h =
    rw (ne_eqb x.start no_page (run x (inl refl)).0, (run x (inl refl)).1)
    (go (leb k x.len) (walk w s k rs once.1 (λ y m. run y (inr m)) later n (omega arith)))
  where
    later : (q : ℕ) → Mem q (starts rs) → (links_at w s q).next.0 ≡ next_in no_page q (starts rs)
    later q m = next q (inr m) ∙ rw (ne_eqb x.start q (λ e. once.0 (rw e m)))

    go : (t : Bool) → fit_from w s n k (head_or no_page (starts rs)) ≡ start_or (fit k rs)
        → pick t x.start (fit_from w s n k (links_at w s x.start).next.0) ≡ start_or (cond t (some x) (fit k rs))
    go true ih = refl
    go false ih = rw (next x.start (inl refl), eq-eqb x.start x.start refl) ih

module _ (w P : ℕ) (wide : 2 ≤ w) (narrow : w ≤ 255) (s : List ℕ) (room : 1 + 9 * w + 2 * P ≤ length s / 8)
    {page : ℕ → Page} {rs : List Run} {ls : ℕ → List ℕ} (T : Scene P page rs ls) {J : Image} (S : ShowsLinks P page rs ls J) (F : Fits P J) where
  R : RunsShown rs J
  R = runs-shown T S T.idle_in

  start_in : (q : ℕ) → Mem q (starts rs) → q < P
  start_in q m = T.idle_in q (start-free T.runs q m)

  read : (q : ℕ) → Mem q (starts rs) → links_at w (paint w P J s) q ≡ J.links q
  read q m = links-shown w P wide J s room q (start_in q m) (F.links q (start_in q m))

  first : (header_at (paint w P J s)).first_run.0 ≡ head_or no_page (starts rs)
  first =
      ap (λ (h : Header). h.first_run.0)
      (header_shown w P wide J s room (header_fits w P _ _ narrow (omega (arith, T.few)) F.free_pages F.first_run))
      ∙ (unfold first_in pick in (sym (next-head J 0) ∙ R.list.nexts (head 0) (inl refl)))

  -- the list has at most P runs
  enough : length (starts rs) ≤ P
  enough =
      omega (
        arith,
        length-count (λ j. is_idle (page j)) P (starts rs) (starts-once T.runs) (λ q m. (start_in q m, start-free T.runs q m)),
        count_bound (λ j. is_idle (page j)) P,
      )

  pub fit-shown : (k : ℕ) → fit_in w (paint w P J s) P k ≡ start_or (fit k rs)
  unfolding fit_in
  fit-shown k =
      rw first
      (walk w (paint w P J s) k rs (starts-once T.runs)
      (λ x m. (λ e. omega (arith, start_in x.start (start-mem rs x m), T.few), ap (λ (l : Links). l.run) (read x.start (start-mem rs x m) ∙ R.heads x m)))
      (λ q m.
      ap (λ (l : Links). l.next.0) (read q m) ∙ sym (next-page J q (omega (arith, start_in q m, T.few))) ∙ R.list.nexts q (inr m)
      ∙ rw (ne_eqb (head 0) q (λ e. omega (arith, start_in q m, T.few))))
      P enough)
