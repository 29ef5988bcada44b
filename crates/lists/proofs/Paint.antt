-- What the changes of a list do to a painted image.
use mathlib.Core.Path.{◌≡◌, refl, sym, ap}
use mathlib.Core.Logic.{◌⊎◌, inl, inr, ◌≢◌}
use mathlib.Core.List.{List}
use Prim.Native.Nat.{ℕ, ◌+◌, ◌-◌, ◌*◌, ◌/◌, ◌≤◌, ◌<◌}
use native.Mathlib.Omega.{arith}
use lib.ListN.{length}
use borrow.Author.Tests.{eq-eqb, ne_eqb}
use Rattle.base.specs.Tests.{pick}
use Rattle.base.proofs.Cases.{eq?}
use Rattle.base.proofs.Functions.{upd_other}
use Rattle.records.specs.Layout.{no_page}
use Rattle.records.specs.declared.Header.{Header}
use Rattle.records.specs.declared.ClassRecord.{ClassRecord}
use Rattle.records.specs.declared.Links.{Links}
use Rattle.records.specs.Mirror.{first_to}
use Rattle.records.specs.Fits.{LinksFit}
use Rattle.records.proofs.Laws.{first_fits}
use Rattle.image.specs.Image.{Image, paint, set_links}
use Rattle.image.proofs.Paint.{paint_ext, links-paint, class-paint, header_paint, links-shown, class-shown, header_shown}
use Rattle.image.proofs.Fits.{Fits, header_fits, fits-first_run, fits-class, fits-links}
use Rattle.lists.specs.Mirror.{between, next_to, prev_to, first_of, with_first_run, with_first_page, with_first, linked_next, linked_prev, with_next, with_prev, unlinked, pushed_before, pushed, replaced}
use Rattle.lists.specs.Nodes.{first_in, put_first, put_next, put_prev, unlink, push, put}

-- a page of P, or none
abbrev pub Maybe : ℕ → ℕ → Type 0
Maybe P p = (p ≡ no_page) ⊎ (p < P)

between-fits : (l : Links) (a b : ℕ) → LinksFit l → a < 65536 → b < 65536 → LinksFit (between l a b)
between-fits l a b F h k = record { kind = F.kind; class = F.class; run = F.run; next = k; prev = h }

pub small : (P : ℕ) {p : ℕ} → P ≤ no_page → Maybe P p → p < 65536
small P top (inl e) = omega arith
small P top (inr h) = omega arith

module _ (w P : ℕ) (wide : 2 ≤ w) (narrow : w ≤ 255) (top : P ≤ no_page) where
  -- ---- fields stay within their widths
  pub fits-first : {I : Image} → Fits P I → (list p : ℕ) → p < 65536 → Fits P (put_first I list p)
  unfolding put_first pick
  fits-first {I} F list p h = go (eq? list 0)
    where
      go : (list ≡ 0) ⊎ (list ≢ 0) → Fits P (put_first I list p)
      go (inl e) = rw (eq-eqb list 0 e) (fits-first_run F p h)
      go (inr e) = rw (ne_eqb list 0 e) (fits-class F (list - 1) _ (λ l. first_fits _ p (F.class (list - 1) l) h))

  pub fits-prev : {I : Image} → Fits P I → (p v : ℕ) → v < 65536 → Fits P (put_prev I p v)
  fits-prev F p v h = fits-links F p _ (λ l. between-fits _ v _ (F.links p l) h (F.links p l).next)

  pub fits_next : {I : Image} → Fits P I → (list p v : ℕ) → v < 65536 → Fits P (put_next I list p v)
  unfolding put_next pick
  fits_next {I} F list p v h = go (eq? p no_page)
    where
      go : (p ≡ no_page) ⊎ (p ≢ no_page) → Fits P (put_next I list p v)
      go (inl e) = rw (eq-eqb p no_page e) (fits-first F list v h)
      go (inr e) = rw (ne_eqb p no_page e) (fits-links F p _ (λ l. between-fits _ _ v (F.links p l) (F.links p l).prev h))

  module _ (s : List ℕ) (room : 1 + 9 * w + 2 * P ≤ length s / 8) where
    -- ---- one store
    pub first-shown : {I : Image} → Fits P I → (list : ℕ) → list ≤ 9 → first_of w (paint w P I s) list ≡ first_in I list
    unfolding first_of first_in pick
    first-shown {I} F list h = go (eq? list 0)
      where
        go : (list ≡ 0) ⊎ (list ≢ 0) → first_of w (paint w P I s) list ≡ first_in I list
        go (inl e) =
            rw (eq-eqb list 0 e)
            (ap (λ (x : Header). x.first_run.0) (header_shown w P wide I s room (header_fits w P _ _ narrow (omega arith) F.free_pages F.first_run)))
        go (inr e) =
            rw (ne_eqb list 0 e)
            (ap (λ (x : ClassRecord). x.first.0) (class-shown w P wide I s room (list - 1) (omega arith) (F.class (list - 1) (omega arith))))

    pub first-paint : {I : Image} → Fits P I → (list p : ℕ) → list ≤ 9 → with_first w (paint w P I s) list p ≡ paint w P (put_first I list p) s
    unfolding with_first put_first with_first_run with_first_page pick
    first-paint {I} F list p h = go (eq? list 0)
      where
        go : (list ≡ 0) ⊎ (list ≢ 0) → with_first w (paint w P I s) list p ≡ paint w P (put_first I list p) s
        go (inl e) =
            rw (eq-eqb list 0 e, header_shown w P wide I s room (header_fits w P _ _ narrow (omega arith) F.free_pages F.first_run))
            (header_paint w P wide I s I.free_pages p)
        go (inr e) =
            rw (ne_eqb list 0 e, class-shown w P wide I s room (list - 1) (omega arith) (F.class (list - 1) (omega arith)))
            (class-paint w P wide I s (list - 1) (first_to (I.class (list - 1)) p) (omega arith))

    pub next-paint : {I : Image} → Fits P I → (list p v : ℕ) → list ≤ 9 → Maybe P p → with_next w (paint w P I s) list p v ≡ paint w P (put_next I list p v) s
    unfolding with_next put_next linked_next pick
    next-paint F list p v h (inl e) = rw (eq-eqb p no_page e) (first-paint F list v h)
    next-paint {I} F list p v h (inr l) =
        rw (ne_eqb p no_page (omega arith), links-shown w P wide I s room p l (F.links p l))
        (links-paint w P wide I s p (next_to (I.links p) v) l)

    pub prev-paint : {I : Image} → Fits P I → (p v : ℕ) → Maybe P p → with_prev w (paint w P I s) p v ≡ paint w P (put_prev I p v) s
    unfolding with_prev linked_prev pick
    prev-paint {I} F p v (inl e) =
        rw (eq-eqb p no_page e)
        (paint_ext w P I (put_prev I p v) s (record {
          free_pages = refl;
          first_run = refl;
          class = λ c l. refl;
          map = λ q l. refl;
          links = λ q l. sym (upd_other I.links p _ q (omega arith));
        }))
    prev-paint {I} F p v (inr l) =
        rw (ne_eqb p no_page (omega arith), links-shown w P wide I s room p l (F.links p l))
        (links-paint w P wide I s p (prev_to (I.links p) v) l)

    -- ---- the three changes
    pub unlink-paint : {I : Image} → Fits P I → (list : ℕ) (l : Links) → list ≤ 9 → Maybe P l.prev.0 → Maybe P l.next.0
        → unlinked w (paint w P I s) list l ≡ paint w P (unlink I list l) s
    unfolding unlinked unlink
    unlink-paint {I} F list l h a b =
        rw (next-paint F list l.prev.0 l.next.0 h a)
        (prev-paint (fits_next F list l.prev.0 l.next.0 (small P top b)) l.next.0 l.prev.0 b)

    pub push-paint : {I : Image} → Fits P I → (list p : ℕ) (l : Links) → list ≤ 9 → p < P → LinksFit l → Maybe P (first_in I list)
        → pushed w (paint w P I s) list p l ≡ paint w P (push I list p l) s
    unfolding pushed pushed_before push
    push-paint {I} F list p l h k L m =
        let new : Fits P (set_links I p (between l no_page (first_in I list))) =
        fits-links F p _ (λ u. between-fits l no_page _ L (omega arith) (small P top m)) in
        rw (first-shown F list h, links-paint w P wide I s p (between l no_page (first_in I list)) k, prev-paint new (first_in I list) p m)
        (first-paint (fits-prev new (first_in I list) p (omega arith)) list p h)

    pub put-paint : {I : Image} → Fits P I → (list p : ℕ) (old l : Links) → list ≤ 9 → p < P → LinksFit l → Maybe P old.prev.0 → Maybe P old.next.0
        → replaced w (paint w P I s) list old p l ≡ paint w P (put I list old p l) s
    unfolding replaced put
    put-paint {I} F list p old l h k L a b =
        let new : Fits P (set_links I p (between l old.prev.0 old.next.0)) =
        fits-links F p _ (λ u. between-fits l _ _ L (small P top a) (small P top b)) in
        rw (links-paint w P wide I s p (between l old.prev.0 old.next.0) k, next-paint new list old.prev.0 p h a)
        (prev-paint (fits_next new list old.prev.0 p (omega arith)) old.next.0 p b)
