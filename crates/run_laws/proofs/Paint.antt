-- What the operations on free runs do to a painted image.
use mathlib.Core.Path.{◌≡◌, refl, sym, ◌∙◌}
use mathlib.Core.Logic.{◌⊎◌, inl, inr, ◌≢◌}
use mathlib.Core.List.{List}
use Prim.Native.Nat.{ℕ, zero, suc, ◌+◌, ◌-◌, ◌*◌, ◌/◌, ◌≤◌, ◌<◌}
use native.Mathlib.Omega.{arith}
use lib.ListN.{length}
use borrow.Author.Tests.{eq-eqb, ne_eqb, lt-ltb, le-ltb}
use Rattle.base.specs.Tests.{pick}
use Rattle.base.specs.Functions.{upd, fill}
use Rattle.base.proofs.Cases.{eq?, lt?, Out, in?}
use Rattle.base.proofs.Functions.{upd_same, upd_other, fill_in, fill_out}
use Rattle.records.specs.Layout.{no_page}
use Rattle.records.specs.declared.Links.{Links}
use Rattle.records.specs.Fits.{LinksFit}
use Rattle.image.specs.Image.{Image, paint, set_links}
use Rattle.image.specs.Update.{set_free}
use Rattle.image.proofs.Paint.{paint_ext, links-paint, header_paint, links-shown, header_shown}
use Rattle.image.proofs.Fits.{Fits, header_fits, fits-free, fits-links}
use Rattle.lists.specs.Mirror.{between}
use Rattle.lists.specs.Nodes.{first_in, unlink, push, put}
use Rattle.lists.proofs.Paint.{Maybe, small, fits-first, fits-prev, fits_next, unlink-paint, push-paint, put-paint}
use Rattle.run_extents.specs.Mirror.{wrap, fewer_free, plain, filled, last_backed, backed, rest_kept, front_cut, front_off, run_taken}
use Rattle.run_neighbours.specs.Mirror.{more_free, run_unlinked, run_dropped, one_of, blanked, run_pushed, joined_run}
use Rattle.run_laws.specs.OnImage.{fill_on, back_on, cut_on, front_on, taken_on, drop_on, joined_on, join_on}

-- the pages around a page are pages of the pool, or none
pub record Near (P : ℕ) (l : Links) : Type 0 where
  pub prev : Maybe P l.prev.0
  pub next : Maybe P l.next.0

-- the pages and neighbours that a join meets
pub record Joins (P : ℕ) (J : Image) (p k a b : ℕ) : Type 0 where
  pub some : 1 ≤ k
  pub before : a ≤ p
  pub after : p + k + b ≤ P
  pub near_right : b ≢ 0 → Near P (J.links (p + k))
  pub near_left : a ≢ 0 → Near P ((drop_on J b (p + k)).links (p - a))
  pub near_first : Maybe P (first_in (joined_on J p k a b) 0)

wrap-small : (n : ℕ) → n < 65536 → wrap n ≡ n
wrap-small n h = omega arith

one_most : (n : ℕ) → one_of n ≤ 1
unfolding one_of pick
one_most n = go (eq? n 0)
  where
    go : (n ≡ 0) ⊎ (n ≢ 0) → one_of n ≤ 1
    go (inl e) = rw (eq-eqb n 0 e) (omega arith)
    go (inr e) = rw (ne_eqb n 0 e) (omega arith)

one_within : (n : ℕ) → one_of n ≤ n
unfolding one_of pick
one_within n = go (eq? n 0)
  where
    go : (n ≡ 0) ⊎ (n ≢ 0) → one_of n ≤ n
    go (inl e) = rw (eq-eqb n 0 e) (omega arith)
    go (inr e) = rw (ne_eqb n 0 e) (omega arith)

pub plain_fits : (kind run prev : ℕ) → kind < 8 → run < 65536 → prev < 65536 → LinksFit (plain kind run prev)
plain_fits kind run prev a b c = record { kind = a; class = omega arith; run = b; next = omega arith; prev = c }

between-fits : (l : Links) (a b : ℕ) → LinksFit l → a < 65536 → b < 65536 → LinksFit (between l a b)
between-fits l a b F h k = record { kind = F.kind; class = F.class; run = F.run; next = k; prev = h }

module _ (w P : ℕ) (wide : 2 ≤ w) (narrow : w ≤ 255) (top : P ≤ no_page) where
  -- ---- fields stay within their widths

  fits-back : {J : Image} → Fits P J → (t n : ℕ) → t < 65536 → Fits P (back_on J t n)
  unfolding back_on pick
  fits-back {J} F t n h = go (lt? 1 n)
    where
      go : (1 < n) ⊎ (n ≤ 1) → Fits P (back_on J t n)
      go (inl l) = rw (lt-ltb 1 n l) (fits-links F (t + (n - 1)) (plain 0 0 t) (λ u. plain_fits 0 0 t (omega arith) (omega arith) h))
      go (inr l) = rw (le-ltb 1 n l) F

  pub fits-fill : {J : Image} → Fits P J → (p n : ℕ) (l : Links) → LinksFit l → Fits P (fill_on J p n l)
  fits-fill {J} F p n l L = record {
    free_pages = F.free_pages;
    first_run = F.first_run;
    class = F.class;
    links = λ q u. go q u (in? p n q);
  }
    where
      go : (q : ℕ) → q < P → ((p ≤ q) × (q < p + n)) ⊎ Out p n q → LinksFit (fill J.links p n l q)
      go q u (inl (a, b)) = rw (fill_in J.links p n l q a b) L
      go q u (inr o) = rw (fill_out J.links p n l q o) (F.links q u)

  fits-unlink : {J : Image} → Fits P J → (l : Links) → Near P l → Fits P (unlink J 0 l)
  unfolding unlink
  fits-unlink F l N =
      fits-prev w P wide narrow top (fits_next w P wide narrow top F 0 l.prev.0 l.next.0 (small P top N.next)) l.next.0 l.prev.0
      (small P top N.prev)

  fits-put : {J : Image} → Fits P J → (old : Links) (p : ℕ) (l : Links) → Near P old → p < 65536 → LinksFit l → Fits P (put J 0 old p l)
  unfolding put
  fits-put {J} F old p l N h L =
      fits-prev w P wide narrow top
      (fits_next w P wide narrow top (fits-links F p _ (λ u. between-fits l _ _ L (small P top N.prev) (small P top N.next))) 0 old.prev.0 p h)
      old.next.0 p h

  fits-push : {J : Image} → Fits P J → (p : ℕ) (l : Links) → Maybe P (first_in J 0) → p < 65536 → LinksFit l → Fits P (push J 0 p l)
  unfolding push
  fits-push {J} F p l m h L =
      fits-first w P wide narrow top
      (fits-prev w P wide narrow top (fits-links F p _ (λ u. between-fits l no_page _ L (omega arith) (small P top m))) (first_in J 0) p h) 0 p h

  fits-drop : {J : Image} → Fits P J → (n q : ℕ) → (n ≢ 0 → Near P (J.links q)) → Fits P (drop_on J n q)
  unfolding drop_on pick
  fits-drop {J} F n q N = go (eq? n 0)
    where
      go : (n ≡ 0) ⊎ (n ≢ 0) → Fits P (drop_on J n q)
      go (inl e) = rw (eq-eqb n 0 e) F
      go (inr e) = rw (ne_eqb n 0 e) (fits-unlink F (J.links q) (N e))

  pub cut_fits : {J : Image} → Fits P J → (p k : ℕ) (l : Links) → Near P l → p + l.run ≤ P → Fits P (cut_on J p k l)
  unfolding cut_on pick
  cut_fits {J} F p k l N h = go (lt? k l.run)
    where
      go : (k < l.run) ⊎ (l.run ≤ k) → Fits P (cut_on J p k l)
      go (inl u) =
          rw (lt-ltb k l.run u)
          (fits-back
          (fits-put F l (p + k) (plain 1 (l.run - k) no_page) N (omega arith) (plain_fits 1 (l.run - k) no_page (omega arith) (omega arith) (omega arith)))
          (p + k) (l.run - k) (omega arith))
      go (inr u) = rw (le-ltb k l.run u) (fits-unlink F l N)

  joined-fits : {J : Image} → Fits P J → (p k a b : ℕ) → Joins P J p k a b
      → Fits P (joined_on J p k a b)
  unfolding joined_on
  joined-fits F p k a b N =
      fits-back
      (fits-fill (fits-drop (fits-drop F b (p + k) N.near_right) a (p - a) N.near_left) (p - one_of a) (one_of a + k + one_of b) (plain 0 0 no_page)
      (plain_fits 0 0 no_page (omega arith) (omega arith) (omega arith)))
      (p - a) (a + k + b) (omega (arith, N.after))

  -- ---- stores
  module _ (s : List ℕ) (room : 1 + 9 * w + 2 * P ≤ length s / 8) where
    pub fewer_paint : {J : Image} → Fits P J → (k : ℕ) → fewer_free (paint w P J s) k ≡ paint w P (set_free J (J.free_pages - k)) s
    unfolding fewer_free
    fewer_paint {J} F k =
        rw (header_shown w P wide J s room (header_fits w P _ _ narrow (omega arith) F.free_pages F.first_run))
        (header_paint w P wide J s (J.free_pages - k) J.first_run)

    pub more_paint : {J : Image} → Fits P J → (k : ℕ) → J.free_pages + k < 65536 → more_free (paint w P J s) k ≡ paint w P (set_free J (J.free_pages + k)) s
    unfolding more_free
    more_paint {J} F k h =
        rw (
          header_shown w P wide J s room (header_fits w P _ _ narrow (omega arith) F.free_pages F.first_run),
          wrap-small (J.free_pages + k) h,
        )
        (header_paint w P wide J s (J.free_pages + k) J.first_run)

    pub filled-paint : (J : Image) (p n : ℕ) (l : Links) → p + n ≤ P → filled w (paint w P J s) p n l ≡ paint w P (fill_on J p n l) s
    unfolding filled
    filled-paint J p zero l h =
        paint_ext w P J (fill_on J p 0 l) s (record {
          free_pages = refl;
          first_run = refl;
          class = λ c u. refl;
          map = λ q u. refl;
          links = λ q u. sym (fill_out J.links p 0 l q (none q (lt? q p)));
        })
      where
        none : (q : ℕ) → (q < p) ⊎ (p ≤ q) → Out p 0 q
        none q (inl u) = inl u
        none q (inr u) = inr (omega arith)
    filled-paint J p (suc n) l h =
        rw (filled-paint J p n l (omega arith), wrap-small (p + n) (omega arith), links-paint w P wide (fill_on J p n l) s (p + n) l (omega arith))
        (paint_ext w P (set_links (fill_on J p n l) (p + n) l) (fill_on J p (suc n) l) s (record {
          free_pages = refl;
          first_run = refl;
          class = λ c u. refl;
          map = λ q u. refl;
          links = λ q u. one q (eq? q (p + n)) (in? p n q);
        }))
      where
        one : (q : ℕ) → (q ≡ p + n) ⊎ (q ≢ p + n) → ((p ≤ q) × (q < p + n)) ⊎ Out p n q
            → upd (fill J.links p n l) (p + n) l q ≡ fill J.links p (suc n) l q
        one q (inl e) _ = rw (e, upd_same (fill J.links p n l) (p + n) l) (sym (fill_in J.links p (suc n) l (p + n) (omega arith) (omega arith)))
        one q (inr e) (inl (a, b)) =
            upd_other (fill J.links p n l) (p + n) l q e ∙ fill_in J.links p n l q a b ∙ sym (fill_in J.links p (suc n) l q a (omega arith))
        one q (inr e) (inr (inl a)) =
            upd_other (fill J.links p n l) (p + n) l q e ∙ fill_out J.links p n l q (inl a) ∙ sym (fill_out J.links p (suc n) l q (inl a))
        one q (inr e) (inr (inr b)) =
            upd_other (fill J.links p n l) (p + n) l q e ∙ fill_out J.links p n l q (inr b) ∙ sym (fill_out J.links p (suc n) l q (inr (omega arith)))

    pub back-paint : (J : Image) (t n : ℕ) → t + n ≤ P → backed w (paint w P J s) t n ≡ paint w P (back_on J t n) s
    unfolding backed last_backed back_on pick
    back-paint J t n h = go (lt? 1 n)
      where
        go : (1 < n) ⊎ (n ≤ 1) → backed w (paint w P J s) t n ≡ paint w P (back_on J t n) s
        go (inl l) = rw (lt-ltb 1 n l, wrap-small (t + (n - 1)) (omega arith)) (links-paint w P wide J s (t + (n - 1)) (plain 0 0 t) (omega arith))
        go (inr l) = rw (le-ltb 1 n l)

    -- ---- pages taken

    pub cut-paint : {J : Image} → Fits P J → (p k : ℕ) (l : Links) → Near P l → p + l.run ≤ P → front_cut w (paint w P J s) p k l ≡ paint w P (cut_on J p k l) s
    unfolding front_cut rest_kept cut_on pick
    cut-paint {J} F p k l N h = go (lt? k l.run)
      where
        go : (k < l.run) ⊎ (l.run ≤ k) → front_cut w (paint w P J s) p k l ≡ paint w P (cut_on J p k l) s
        go (inl u) =
            rw (
              lt-ltb k l.run u,
              wrap-small (p + k) (omega arith),
              put-paint w P wide narrow top s room F 0 (p + k) l (plain 1 (l.run - k) no_page) (omega arith) (omega arith)
                  (plain_fits 1 (l.run - k) no_page (omega arith) (omega arith) (omega arith)) N.prev N.next,
            )
            (back-paint (put J 0 l (p + k) (plain 1 (l.run - k) no_page)) (p + k) (l.run - k) (omega arith))
        go (inr u) = rw (le-ltb k l.run u) (unlink-paint w P wide narrow top s room F 0 l (omega arith) N.prev N.next)

    pub front_painted : {J : Image} → Fits P J → (p k : ℕ) → p < P → Near P (J.links p) → p + (J.links p).run ≤ P
        → front_off w (paint w P J s) p k ≡ paint w P (front_on J p k) s
    unfolding front_off front_on
    front_painted {J} F p k l N h =
        rw (links-shown w P wide J s room p l (F.links p l), fewer_paint F k)
        (cut-paint (fits-free F (J.free_pages - k) (omega (arith, F.free_pages))) p k (J.links p) N h)

    pub taken_painted : {J : Image} → Fits P J → (p k : ℕ) → p < P → p + k ≤ P → Near P (J.links p) → p + (J.links p).run ≤ P
        → run_taken w (paint w P J s) p k ≡ paint w P (taken_on J p k) s
    unfolding run_taken taken_on
    taken_painted {J} F p k l t N h =
        rw (front_painted F p k l N h, filled-paint (front_on J p k) p k (plain 4 0 no_page) t)
        (links-paint w P wide (fill_on (front_on J p k) p k (plain 4 0 no_page)) s p (plain 3 k no_page) l)

    -- ---- pages released

    drop-paint : {J : Image} → Fits P J → (n q : ℕ) → q < P ⊎ (n ≡ 0) → (n ≢ 0 → Near P (J.links q)) → run_dropped w (paint w P J s) n q ≡ paint w P (drop_on J n q) s
    unfolding run_dropped run_unlinked drop_on pick
    drop-paint {J} F n q l N = go (eq? n 0) l
      where
        go : (n ≡ 0) ⊎ (n ≢ 0) → q < P ⊎ (n ≡ 0) → run_dropped w (paint w P J s) n q ≡ paint w P (drop_on J n q) s
        go (inl e) _ = rw (eq-eqb n 0 e)
        go (inr e) (inr d) = absurd (e d)
        go (inr e) (inl l) =
            rw (ne_eqb n 0 e, links-shown w P wide J s room q l (F.links q l))
            (unlink-paint w P wide narrow top s room F 0 (J.links q) (omega arith) (N e).prev (N e).next)

    pub join-paint : {J : Image} → Fits P J → (p k a b : ℕ) → Joins P J p k a b → joined_run w (paint w P J s) p k a b ≡ paint w P (join_on J p k a b) s
    unfolding joined_run blanked run_pushed join_on joined_on
    join-paint {J} F p k a b N =
        let J₁ = drop_on J b (p + k) in
        let J₂ = drop_on J₁ a (p - a) in
        let J₃ = fill_on J₂ (p - one_of a) (one_of a + k + one_of b) (plain 0 0 no_page) in
        let F₁ : Fits P J₁ = fits-drop F b (p + k) N.near_right in
        let m = one_most a in
        let n = one_most b in
        let x = one_within a in
        let y = one_within b in
        rw (
          wrap-small (p + k) (omega (arith, N.after)),
          drop-paint F b (p + k) (right (eq? b 0)) N.near_right,
          drop-paint F₁ a (p - a) (inl (omega (arith, N.after, N.some))) N.near_left,
          wrap-small (one_of a + k + one_of b) (omega (arith, N.after)),
          filled-paint J₂ (p - one_of a) (one_of a + k + one_of b) (plain 0 0 no_page) (omega (arith, N.after, N.before)),
          wrap-small (a + k + b) (omega (arith, N.after, N.before)),
          back-paint J₃ (p - a) (a + k + b) (omega (arith, N.after, N.before)),
        )
        (push-paint w P wide narrow top s room (joined-fits F p k a b N) 0 (p - a) (plain 1 (a + k + b) no_page) (omega arith) (omega (arith, N.after, N.some))
        (plain_fits 1 (a + k + b) no_page (omega arith) (omega (arith, N.after, N.before)) (omega arith)) N.near_first)
      where
        right : (b ≡ 0) ⊎ (b ≢ 0) → p + k < P ⊎ (b ≡ 0)
        right (inl e) = inr e
        right (inr e) = inl (omega (arith, N.after))
