-- A page leaves the list of its class, or comes in front of it: the image shows the links so changed.
use mathlib.Core.Path.{◌≡◌, refl, sym, ap, ◌∙◌, fun_ext}
use mathlib.Core.Logic.{◌⊎◌, inl, inr, ◌≢◌}
use mathlib.Core.Bool.{Bool, true, false, not}
use mathlib.Core.List.{List, [], ◌∷◌}
use Prim.Native.Nat.{ℕ, suc, ◌+◌, ◌-◌, ◌*◌, ◌/◌, ◌≤◌, ◌<◌}
use native.Mathlib.Omega.{arith}
use lib.ListN.{length}
use lib.Dec.{eqb}
use borrow.Author.Tests.{eq-eqb, ne_eqb}
use Rattle.base.specs.Tests.{pick}
use Rattle.base.specs.Functions.{upd}
use Rattle.base.specs.Lists.{Mem, NoDup, keep}
use Rattle.base.specs.Links.{head_or, next_in, prev_from, others}
use Rattle.base.proofs.Cases.{clash, eq?, lt?, Out}
use Rattle.base.proofs.Functions.{upd_same, upd_other, upd-at}
use Rattle.base.proofs.Lists.{mem-keep}
use Rattle.base.proofs.Neighbours.{prev_on}
use Rattle.records.specs.Layout.{no_page}
use Rattle.records.specs.declared.Links.{Links}
use Rattle.records.specs.Mirror.{first_to}
use Rattle.model.specs.State.{Page, idle, slab, taken, inside, edge, Run}
use Rattle.image.specs.Image.{Image, paint, set_all_links, set_links}
use Rattle.image.specs.Update.{set_class}
use Rattle.image.proofs.Fits.{Fits}
use Rattle.lists.specs.Mirror.{between, prev_to}
use Rattle.lists.specs.Nodes.{first_in, prev_of, Listed, put_first, put_next, put_prev, unlink, push}
use Rattle.lists.proofs.Laws.{unlink-listed, push-listed, unlink-off, push-off, unlink-others, push-others, unlink_relinked, push_relinked}
use Rattle.lists.proofs.Paint.{Maybe, push-paint}
use Rattle.rules.specs.Drawn.{starts, links, page_links}
use Rattle.shows.specs.Shows.{Unlisted, ShowsOn, ShowsLinks}
use Rattle.run_laws.specs.Scene.{Scene}
use Rattle.run_laws.proofs.Shown.{start-free}
use Rattle.chunks.specs.Mirror.{list_of, class_links, enlisted}

-- ---- what a page shows of a list

next_out : (z q : ℕ) (xs : List ℕ) → ¬ Mem q xs → next_in z q xs ≡ z
next_out z q [] h = refl
next_out z q (y ∷ ys) h = rw (ne_eqb y q (λ e. h (inl (sym e)))) (next_out z q ys (λ m. h (inr m)))

prev_out : (z b q : ℕ) (xs : List ℕ) → ¬ Mem q xs → prev_from z b q xs ≡ z
prev_out z b q [] h = refl
prev_out z b q (y ∷ ys) h = rw (ne_eqb y q (λ e. h (inl (sym e)))) (prev_out z y q ys (λ m. h (inr m)))

pub head_out : (z q : ℕ) (xs : List ℕ) → q ≢ z → ¬ Mem q xs → head_or z xs ≢ q
head_out z q [] d h e = d (sym e)
head_out z q (y ∷ ys) d h e = h (inl (sym e))

-- there is no page before p, and p is not the first
abbrev pub off_in : (p : ℕ) (xs : List ℕ) → Bool
off_in p xs = pick (eqb (prev_from no_page no_page p xs) no_page) (not (eqb (head_or no_page xs) p)) false

pub off_out : (p : ℕ) (xs : List ℕ) → p < no_page → ¬ Mem p xs → off_in p xs ≡ true
unfolding pick
off_out p xs l h = rw (prev_out no_page no_page p xs h, ne_eqb (head_or no_page xs) p (head_out no_page p xs (omega arith) h))

pub off_on : (p : ℕ) (xs : List ℕ) → ((q : ℕ) → Mem q xs → q < no_page) → Mem p xs → off_in p xs ≡ false
unfolding pick
off_on p (x ∷ xs) low m = go (eq? x p) m
  where
    go : (x ≡ p) ⊎ (x ≢ p) → Mem p (x ∷ xs) → off_in p (x ∷ xs) ≡ false
    go (inl e) m = rw (eq-eqb x p e)
    go (inr e) (inl z) = absurd (e (sym z))
    go (inr e) (inr k) =
        let l : prev_from no_page x p xs < no_page = low _ (prev_on no_page x p xs k) in
        rw (ne_eqb x p e, ne_eqb (prev_from no_page x p xs) no_page (omega arith))
off_on p [] low m = elim m [ ]

module _ (rs : List Run) (ls ls' : ℕ → List ℕ) (q : ℕ) where
  -- kind, class and run ask no list
  shape_any : (x : Page) (a b : ℕ) → between (page_links rs ls q x) a b ≡ between (page_links rs ls' q x) a b
  shape_any idle a b = refl
  shape_any (slab c m) a b = refl
  shape_any (taken n) a b = refl
  shape_any inside a b = refl
  shape_any edge a b = refl

  -- a page shows nothing of a list that it is not on
  links-any : (c : ℕ) → ((d : ℕ) → d ≢ c → ls' d ≡ ls d) → ¬ Mem q (ls c) → ¬ Mem q (ls' c) → (x : Page) → page_links rs ls q x ≡ page_links rs ls' q x
  links-any c same h h' idle = refl
  links-any c same h h' (slab d m) = go (eq? d c)
    where
      go : (d ≡ c) ⊎ (d ≢ c) → page_links rs ls q (slab d m) ≡ page_links rs ls' q (slab d m)
      go (inl e) = rw (e, next_out no_page q (ls c) h, prev_out no_page no_page q (ls c) h, next_out no_page q (ls' c) h', prev_out no_page no_page q (ls' c) h')
      go (inr e) = rw (same d e)
  links-any c same h h' (taken n) = refl
  links-any c same h h' inside = refl
  links-any c same h h' edge = refl

-- a class page that is on no list
pub off_list : (rs : List Run) (ls : ℕ → List ℕ) (p c : ℕ) (k : ℕ → Bool) → ¬ Mem p (ls c) → page_links rs ls p (slab c k) ≡ class_links c
off_list rs ls p c k h = rw (next_out no_page p (ls c) h, prev_out no_page no_page p (ls c) h)

off_one : (p q : ℕ) → Out p 1 q → q ≢ p
off_one p q (inl h) = omega arith
off_one p q (inr h) = omega arith

pub one_off : (p q : ℕ) → q ≢ p → Out p 1 q
one_off p q d = go (lt? q p)
  where
    go : (q < p) ⊎ (p ≤ q) → Out p 1 q
    go (inl h) = inl h
    go (inr h) = inr (omega arith)

-- ---- the lists

module _ {P : ℕ} {page : ℕ → Page} {rs : List Run} {ls : ℕ → List ℕ} (T : Scene P page rs ls) (c : ℕ) (ok : c ≤ 8) (once : NoDup (ls c))
    (apart : (d q : ℕ) → d ≤ 8 → d ≢ c → Mem q (ls d) → ¬ Mem q (ls c)) where
  low : (d q : ℕ) → d ≤ 8 → Mem q (ls d) → q < no_page
  low d q l m = omega (arith, T.few, (T.class_in d q l m).0)

  run-low : (q : ℕ) → Mem q (starts rs) → q < no_page
  run-low q m = omega (arith, T.few, T.idle_in q (start-free T.runs q m))

  run-off : (q : ℕ) → Mem q (starts rs) → ¬ Mem q (ls c)
  run-off q m n = clash (start-free T.runs q m) (T.class_in c q ok n).1

  module _ {J : Image} {on : ℕ → Type 0} (S : ShowsOn on page rs ls J) (p : ℕ) where
    -- page p leaves
    module _ (m : Mem p (ls c)) where
      abbrev less : ℕ → List ℕ
      less = upd ls c (keep (others p) (ls c))

      abbrev K : Image
      K = unlink J (suc c) (J.links p)

      same_less : (d : ℕ) → d ≢ c → less d ≡ ls d
      same_less d e = upd_other ls c (keep (others p) (ls c)) d e

      pub left-shows : ((q : ℕ) → q < P → Out p 1 q → on q) → ShowsOn (λ q. (q < P) × Out p 1 q) page rs less K
      left-shows was = record {
        free_list = unlink-others J (suc c) (ls c) once (λ q. low c q ok) (S.class_list c ok) 0 (starts rs) (λ e. omega arith) run-low run-off S.free_list p m;
        class_list = λ d l. class d l (eq? d c);
        shape = λ q (l, o).
            (unlink_relinked J (suc c) (J.links p)).links q
            ∙ ap (λ (x : Links). between x (prev_of K q) (K.links q).next.0) (S.shape q (was q l o))
            ∙ shape_any rs ls less q (page q) (prev_of K q) (K.links q).next.0;
        unlisted = λ q (l, o) u. plain q l o u;
      }
        where
          class : (d : ℕ) → d ≤ 8 → (d ≡ c) ⊎ (d ≢ c) → Listed K (suc d) (less d)
          class d l (inl e) =
              rw (e, upd_same ls c (keep (others p) (ls c))) (unlink-listed J (suc c) (ls c) once (λ q. low c q ok) (S.class_list c ok) p m)
          class d l (inr e) =
              rw (same_less d e)
              (unlink-others J (suc c) (ls c) once (λ q. low c q ok) (S.class_list c ok) (suc d) (ls d) (λ z. e (omega arith)) (λ q. low d q l)
              (λ q. apart d q l e) (S.class_list d l) p m)

          plain : (q : ℕ) → q < P → Out p 1 q → Unlisted rs less q → K.links q ≡ page_links rs less q (page q)
          plain q l o u =
              let out' : ¬ Mem q (keep (others p) (ls c)) = λ n. u.no-class c ok (rw (upd_same ls c (keep (others p) (ls c))) n) in
              let out : ¬ Mem q (ls c) = λ n. out' (mem-keep (others p) q (ls c) n (unfold others in (rw (ne_eqb q p (off_one p q o))))) in
              unlink-off J (suc c) (ls c) once (λ x. low c x ok) (S.class_list c ok) q (omega (arith, T.few)) out p m
              ∙ S.unlisted q (was q l o) (record { no_run = u.no_run; no-class = λ d h n. none d h n (eq? d c) out })
              ∙ links-any rs ls less q c same_less out (rw (upd_same ls c (keep (others p) (ls c))) out') (page q)
            where
              none : (d : ℕ) → d ≤ 8 → Mem q (ls d) → (d ≡ c) ⊎ (d ≢ c) → ¬ Mem q (ls c) → ⊥
              none d h n (inl e) out = out (rw e at n)
              none d h n (inr e) out = u.no-class d h (rw (same_less d e) n)

    -- page p, of class c and on no list, comes in front
    module _ (below : p < P) (new : Unlisted rs ls p) (k : ℕ → Bool) (is : page p ≡ slab c k) where
      abbrev more : ℕ → List ℕ
      more = upd ls c (p ∷ ls c)

      abbrev L : Image
      L = push J (suc c) p (class_links c)

      same_more : (d : ℕ) → d ≢ c → more d ≡ ls d
      same_more d e = upd_other ls c (p ∷ ls c) d e

      page-low : p < no_page
      page-low = omega (arith, T.few)

      pub pushed-shows : ((q : ℕ) → q < P → Out p 1 q → on q) → ShowsLinks P page rs more L
      pushed-shows was = record {
        free_list =
            push-others J (suc c) (ls c) once (λ q. low c q ok) (S.class_list c ok) 0 (starts rs) (λ e. omega arith) run-low run-off S.free_list p page-low new.no_run
            (class_links c);
        class_list = λ d l. class d l (eq? d c);
        shape = λ q l. shaped q l (eq? q p);
        unlisted = λ q l u. plain q l u (eq? q p);
      }
        where
          class : (d : ℕ) → d ≤ 8 → (d ≡ c) ⊎ (d ≢ c) → Listed L (suc d) (more d)
          class d l (inl e) =
              rw (e, upd_same ls c (p ∷ ls c)) (push-listed J (suc c) (ls c) once (λ q. low c q ok) (S.class_list c ok) p (class_links c) page-low (new.no-class c ok))
          class d l (inr e) =
              rw (same_more d e)
              (push-others J (suc c) (ls c) once (λ q. low c q ok) (S.class_list c ok) (suc d) (ls d) (λ z. e (omega arith)) (λ q. low d q l)
              (λ q. apart d q l e) (S.class_list d l) p page-low (new.no-class d l) (class_links c))

          written : Links
          written = between (class_links c) no_page (first_in J (suc c))

          shaped : (q : ℕ) → q < P → (q ≡ p) ⊎ (q ≢ p) → L.links q ≡ between (page_links rs more q (page q)) (prev_of L q) (L.links q).next.0
          shaped q l (inl e) =
              (push_relinked J (suc c) p (class_links c)).links q
              ∙ ap (λ (x : Links). between x (prev_of L q) (L.links q).next.0) (ap (upd J.links p written) e ∙ upd_same J.links p written)
              ∙ rw (e, is)
          shaped q l (inr e) =
              (push_relinked J (suc c) p (class_links c)).links q
              ∙ ap (λ (x : Links). between x (prev_of L q) (L.links q).next.0) (upd_other J.links p written q e ∙ S.shape q (was q l (one_off p q e)))
              ∙ shape_any rs ls more q (page q) (prev_of L q) (L.links q).next.0

          plain : (q : ℕ) → q < P → Unlisted rs more q → (q ≡ p) ⊎ (q ≢ p) → L.links q ≡ page_links rs more q (page q)
          plain q l u (inl e) = absurd (u.no-class c ok (rw (upd_same ls c (p ∷ ls c)) (inl e)))
          plain q l u (inr e) =
              let out' : ¬ Mem q (p ∷ ls c) = λ n. u.no-class c ok (rw (upd_same ls c (p ∷ ls c)) n) in
              let out : ¬ Mem q (ls c) = λ n. out' (inr n) in
              push-off J (suc c) (ls c) once (λ x. low c x ok) (S.class_list c ok) q (omega (arith, T.few)) out p (class_links c) e
              ∙ S.unlisted q (was q l (one_off p q e)) (record { no_run = u.no_run; no-class = λ d h n. none d h n (eq? d c) out })
              ∙ links-any rs ls more q c same_more out (rw (upd_same ls c (p ∷ ls c)) out') (page q)
            where
              none : (d : ℕ) → d ≤ 8 → Mem q (ls d) → (d ≡ c) ⊎ (d ≢ c) → ¬ Mem q (ls c) → ⊥
              none d h n (inl z) out = out (rw z at n)
              none d h n (inr z) out = u.no-class d h (rw (same_more d z) n)

-- ---- the same, where the class's first page changes last

-- page p, the first, leaves and has the links l
pub first-left : (I : Image) (c p : ℕ) (l : Links) → (I.links p).prev.0 ≡ no_page → (I.links p).next.0 ≢ p
    → set_class (put_prev (set_links I p l) (I.links p).next.0 no_page) c (first_to (I.class c) (I.links p).next.0) ≡ set_links (unlink I (suc c) (I.links p)) p l
unfolding unlink put_next put_first pick
first-left I c p l first other =
    let e : suc c - 1 ≡ c = omega arith in
    rw (first, ne_eqb (suc c) 0 (omega arith), e) (λ i. set_all_links (set_class I c (first_to (I.class c) h)) (fun_ext (λ q. go q (eq? q p)) i))
  where
    h : ℕ
    h = (I.links p).next.0

    go : (q : ℕ) → (q ≡ p) ⊎ (q ≢ p) → upd (upd I.links p l) h (prev_to (upd I.links p l h) no_page) q ≡ upd (upd I.links h (prev_to (I.links h) no_page)) p l q
    go q (inl e) =
        rw (e, upd_same (upd I.links h (prev_to (I.links h) no_page)) p l)
        (upd_other (upd I.links p l) h _ p (λ z. other (sym z)) ∙ upd_same I.links p l)
    go q (inr e) =
        rw (upd_other I.links p l h other, upd_other (upd I.links h (prev_to (I.links h) no_page)) p l q e)
        (upd-at (upd I.links p l) I.links h (prev_to (I.links h) no_page) q (upd_other I.links p l q e))

-- page p comes in front
pub first-pushed : (I : Image) (c p : ℕ) (l : Links)
    → set_class (put_prev (set_links I p (between l no_page (I.class c).first.0)) (I.class c).first.0 p) c (first_to (I.class c) p) ≡ push I (suc c) p l
unfolding push put_first first_in pick
first-pushed I c p l = let e : suc c - 1 ≡ c = omega arith in rw (ne_eqb (suc c) 0 (omega arith), e)

-- ---- on painted bytes

pub enlisted_painted : (w P : ℕ) → 2 ≤ w → w ≤ 255 → P ≤ no_page → (S : List ℕ) → 1 + 9 * w + 2 * P ≤ length S / 8 → {J : Image} → Fits P J → (c p : ℕ) → c ≤ 8 → p < P
    → Maybe P (first_in J (suc c)) → enlisted w (paint w P J S) c p ≡ paint w P (push J (suc c) p (class_links c)) S
unfolding enlisted
enlisted_painted w P wide narrow top S room F c p ok below first =
    let z : list_of c ≡ suc c = omega arith in
    rw z
    (push-paint w P wide narrow top S room F (suc c) p (class_links c) (omega arith) below
    (record { kind = omega arith; class = omega arith; run = omega arith; next = omega arith; prev = omega arith }) first)
