-- Unlink, push front and replace in place change one list and leave the nine others, and nothing but next, previous and first pages.
use mathlib.Core.Path.{◌≡◌, refl, sym, ap, ◌∙◌, subst}
use mathlib.Core.Logic.{◌⊎◌, inl, inr, ◌≢◌}
use mathlib.Core.List.{List, [], ◌∷◌}
use Prim.Native.Nat.{ℕ, ◌+◌, ◌-◌, ◌≤◌, ◌<◌}
use native.Mathlib.Omega.{arith}
use borrow.Author.Tests.{eq-eqb, ne_eqb, lt-ltb, le-ltb}
use Rattle.base.specs.Tests.{pick}
use Rattle.base.specs.Functions.{upd}
use Rattle.base.specs.Lists.{Mem, NoDup, keep}
use Rattle.base.specs.Links.{head_or, next_in, others, replace, node}
use Rattle.base.proofs.Cases.{eq?, lt?}
use Rattle.base.proofs.Functions.{upd_same, upd_other, upd-at}
use Rattle.base.proofs.Neighbours.{next_on, prev_on}
use Rattle.base.proofs.Links.{linked-frame, linked-left, linked-pushed, linked-put}
use Rattle.records.specs.Layout.{no_page}
use Rattle.records.specs.declared.Links.{Links}
use Rattle.records.specs.Mirror.{first_to}
use Rattle.image.specs.Image.{Image, set_links}
use Rattle.lists.specs.Mirror.{between, next_to, prev_to}
use Rattle.lists.specs.Nodes.{head, first_in, next_of, prev_of, Listed, put_first, put_next, put_prev, unlink, push, put}

-- ---- next and previous after one store

-- a field of one changed place
field : (g : Links → ℕ) (f : ℕ → Links) (p : ℕ) (l : Links) (v : ℕ) → g l ≡ v → (q : ℕ) → g (upd f p l q) ≡ upd (λ j. g (f j)) p v q
field g f p l v e q = go (eq? q p)
  where
    go : (q ≡ p) ⊎ (q ≢ p) → g (upd f p l q) ≡ upd (λ j. g (f j)) p v q
    go (inl d) = rw (d, upd_same f p l, upd_same (λ j. g (f j)) p v) e
    go (inr d) = rw (upd_other f p l q d, upd_other (λ j. g (f j)) p v q d)

-- a field that the change keeps
same_field : (g : Links → ℕ) (f : ℕ → Links) (p : ℕ) (l : Links) → g l ≡ g (f p) → (q : ℕ) → g (upd f p l q) ≡ g (f q)
same_field g f p l e q = go (eq? q p)
  where
    go : (q ≡ p) ⊎ (q ≢ p) → g (upd f p l q) ≡ g (f q)
    go (inl d) = rw (d, upd_same f p l) e
    go (inr d) = rw (upd_other f p l q d)

module _ (I : Image) where
  pub next-page : (q : ℕ) → q < no_page → next_of I q ≡ (I.links q).next.0
  unfolding next_of pick
  next-page q h = rw (lt-ltb q no_page h)

  pub next-head : (list : ℕ) → next_of I (head list) ≡ first_in I list
  unfolding next_of pick
  next-head list =
      let e : no_page + list - no_page ≡ list = omega arith in
      rw (le-ltb (no_page + list) no_page (omega arith), e)

  pub next-links : (p : ℕ) (l : Links) → p < no_page → (q : ℕ) → next_of (set_links I p l) q ≡ upd (next_of I) p l.next.0 q
  unfolding next_of first_in pick
  next-links p l h q = go (lt? q no_page)
    where
      go : (q < no_page) ⊎ (no_page ≤ q) → next_of (set_links I p l) q ≡ upd (next_of I) p l.next.0 q
      go (inl k) = page (eq? q p)
        where
          page : (q ≡ p) ⊎ (q ≢ p) → next_of (set_links I p l) q ≡ upd (next_of I) p l.next.0 q
          page (inl e) = rw (lt-ltb q no_page k, e, upd_same I.links p l, upd_same (next_of I) p l.next.0)
          page (inr e) = rw (lt-ltb q no_page k, upd_other I.links p l q e, upd_other (next_of I) p l.next.0 q e, lt-ltb q no_page k)
      go (inr k) = rw (le-ltb q no_page k, upd_other (next_of I) p l.next.0 q (omega arith), le-ltb q no_page k)

  pub next-first : (list v q : ℕ) → next_of (put_first I list v) q ≡ upd (next_of I) (head list) v q
  unfolding next_of put_first first_in pick
  next-first list v q = go (lt? q no_page) (eq? list 0)
    where
      go : (q < no_page) ⊎ (no_page ≤ q) → (list ≡ 0) ⊎ (list ≢ 0) → next_of (put_first I list v) q ≡ upd (next_of I) (head list) v q
      go (inl k) (inl e) = rw (eq-eqb list 0 e, lt-ltb q no_page k, upd_other (next_of I) (no_page + list) v q (omega arith), lt-ltb q no_page k)
      go (inl k) (inr e) = rw (ne_eqb list 0 e, lt-ltb q no_page k, upd_other (next_of I) (no_page + list) v q (omega arith), lt-ltb q no_page k)
      go (inr k) (inl e) = run (eq? (q - no_page) 0)
        where
          run : (q - no_page ≡ 0) ⊎ (q - no_page ≢ 0) → next_of (put_first I list v) q ≡ upd (next_of I) (head list) v q
          run (inl d) =
              let x : q ≡ no_page + list = omega arith in
              rw (eq-eqb list 0 e, le-ltb q no_page k, eq-eqb (q - no_page) 0 d) (sym (ap (upd (next_of I) (no_page + list) v) x ∙ upd_same (next_of I) (no_page + list) v))
          run (inr d) =
              rw (eq-eqb list 0 e, le-ltb q no_page k, ne_eqb (q - no_page) 0 d, upd_other (next_of I) (no_page + list) v q (omega arith), le-ltb q no_page k, ne_eqb (q - no_page) 0 d)
      go (inr k) (inr e) = class (eq? (q - no_page) 0) (eq? (q - no_page - 1) (list - 1))
        where
          class : (q - no_page ≡ 0) ⊎ (q - no_page ≢ 0) → (q - no_page - 1 ≡ list - 1) ⊎ (q - no_page - 1 ≢ list - 1) → next_of (put_first I list v) q ≡ upd (next_of I) (head list) v q
          class (inl d) _ =
              rw (ne_eqb list 0 e, le-ltb q no_page k, eq-eqb (q - no_page) 0 d, upd_other (next_of I) (no_page + list) v q (omega arith), le-ltb q no_page k, eq-eqb (q - no_page) 0 d)
          class (inr d) (inl c) =
              let x : q ≡ no_page + list = omega arith in
              rw (ne_eqb list 0 e, le-ltb q no_page k, ne_eqb (q - no_page) 0 d, c, upd_same I.class (list - 1) (first_to (I.class (list - 1)) v))
              (sym (ap (upd (next_of I) (no_page + list) v) x ∙ upd_same (next_of I) (no_page + list) v))
          class (inr d) (inr c) =
              rw (
                ne_eqb list 0 e,
                le-ltb q no_page k,
                ne_eqb (q - no_page) 0 d,
                upd_other I.class (list - 1) (first_to (I.class (list - 1)) v) (q - no_page - 1) c,
                upd_other (next_of I) (no_page + list) v q (omega arith),
                le-ltb q no_page k,
                ne_eqb (q - no_page) 0 d,
              )

  first_off : (list v q : ℕ) → (put_first I list v).links q ≡ I.links q
  unfolding put_first pick
  first_off list v q = go (eq? list 0)
    where
      go : (list ≡ 0) ⊎ (list ≢ 0) → (put_first I list v).links q ≡ I.links q
      go (inl e) = rw (eq-eqb list 0 e)
      go (inr e) = rw (ne_eqb list 0 e)

  prev-first : (list v q : ℕ) → prev_of (put_first I list v) q ≡ prev_of I q
  prev-first list v q = ap (λ (l : Links). l.prev.0) (first_off list v q)

  next-put : (list p v : ℕ) → p ≤ no_page → (q : ℕ) → next_of (put_next I list p v) q ≡ upd (next_of I) (node no_page (head list) p) v q
  unfolding put_next pick
  next-put list p v h q = go (eq? p no_page)
    where
      go : (p ≡ no_page) ⊎ (p ≢ no_page) → next_of (put_next I list p v) q ≡ upd (next_of I) (node no_page (head list) p) v q
      go (inl e) = rw (eq-eqb p no_page e) (next-first list v q)
      go (inr e) = rw (ne_eqb p no_page e) (next-links p (next_to (I.links p) v) (omega arith) q)

  prev-put : (list p v q : ℕ) → prev_of (put_next I list p v) q ≡ prev_of I q
  unfolding put_next pick
  prev-put list p v q = go (eq? p no_page)
    where
      go : (p ≡ no_page) ⊎ (p ≢ no_page) → prev_of (put_next I list p v) q ≡ prev_of I q
      go (inl e) = rw (eq-eqb p no_page e) (prev-first list v q)
      go (inr e) = rw (ne_eqb p no_page e) (same_field (λ l. l.prev.0) I.links p (next_to (I.links p) v) refl q)

  next-keeps : (p v q : ℕ) → next_of (put_prev I p v) q ≡ next_of I q
  unfolding next_of first_in pick
  next-keeps p v q = rw (same_field (λ l. l.next.0) I.links p (prev_to (I.links p) v) refl q)

  prev-sets : (p v q : ℕ) → prev_of (put_prev I p v) q ≡ upd (prev_of I) p v q
  prev-sets p v q = field (λ l. l.prev.0) I.links p (prev_to (I.links p) v) v refl q

  -- ---- links of other pages

  next-off : (list p v q : ℕ) → q ≢ p → (put_next I list p v).links q ≡ I.links q
  unfolding put_next pick
  next-off list p v q d = go (eq? p no_page)
    where
      go : (p ≡ no_page) ⊎ (p ≢ no_page) → (put_next I list p v).links q ≡ I.links q
      go (inl e) = rw (eq-eqb p no_page e) (first_off list v q)
      go (inr e) = rw (ne_eqb p no_page e) (upd_other I.links p (next_to (I.links p) v) q d)

-- ---- the list itself

module _ (I : Image) (list : ℕ) (xs : List ℕ) (once : NoDup xs) (pages : (q : ℕ) → Mem q xs → q < no_page) (K : Listed I list xs) where
  no_none : ¬ Mem no_page xs
  no_none m = omega (arith, pages no_page m)

  no-head : ¬ Mem (head list) xs
  no-head m = omega (arith, pages (head list) m)

  -- the pages around a page of the list
  prev-is : (p : ℕ) → Mem p xs → Mem (prev_of I p) (no_page ∷ xs)
  prev-is p m = subst (λ (x : ℕ). Mem x (no_page ∷ xs)) (sym (K.prevs p m)) (prev_on no_page no_page p xs m)

  prev-most : (p : ℕ) → Mem p xs → prev_of I p ≤ no_page
  prev-most p m = go (prev-is p m)
    where
      go : Mem (prev_of I p) (no_page ∷ xs) → prev_of I p ≤ no_page
      go (inl e) = omega arith
      go (inr k) = omega (arith, pages (prev_of I p) k)

  -- page p leaves
  pub unlink-listed : (p : ℕ) → Mem p xs → Listed (unlink I list (I.links p)) list (keep (others p) xs)
  unfolding unlink
  unlink-listed p m =
      let J = put_next I list (I.links p).prev.0 (I.links p).next.0 in
      linked-frame
      (λ q _.
      next-keeps J (I.links p).next.0 (I.links p).prev.0 q
      ∙ next-put I list (I.links p).prev.0 (I.links p).next.0 (prev-most p m) q
      ∙ ap (λ (v : ℕ). upd (next_of I) (node no_page (head list) (prev_of I p)) v q) (sym (next-page I p (pages p m))))
      (λ q _.
      prev-sets J (I.links p).next.0 (I.links p).prev.0 q
      ∙ upd-at (prev_of J) (prev_of I) (I.links p).next.0 (I.links p).prev.0 q (prev-put I list (I.links p).prev.0 (I.links p).next.0 q)
      ∙ ap (λ (v : ℕ). upd (prev_of I) v (prev_of I p) q) (sym (next-page I p (pages p m))))
      (linked-left no_page (head list) (next_of I) (prev_of I) xs once no_none no-head K p m)

  -- a page that is on no list has its own links written
  module _ (p : ℕ) (page : p < no_page) (new : ¬ Mem p xs) (l : Links) where
    abbrev written : Image
    written = set_links I p l

    written_next : (q : ℕ) → q ≢ p → next_of written q ≡ next_of I q
    written_next q d = next-links I p l page q ∙ upd_other (next_of I) p l.next.0 q d

    written-prev : (q : ℕ) → q ≢ p → prev_of written q ≡ prev_of I q
    written-prev q d = ap (λ (x : Links). x.prev.0) (upd_other I.links p l q d)

    not_new : (q : ℕ) → Mem q (head list ∷ xs) → q ≢ p
    not_new q (inl e) d = omega arith
    not_new q (inr m) d = new (rw (← d) m)

    written_listed : Listed written list xs
    written_listed = linked-frame (λ q m. written_next q (not_new q m)) (λ q m. written-prev q (not_new q (inr m))) K

    own-next : next_of written p ≡ l.next.0
    own-next = next-links I p l page p ∙ upd_same (next_of I) p l.next.0

    own-prev : prev_of written p ≡ l.prev.0
    own-prev = ap (λ (x : Links). x.prev.0) (upd_same I.links p l)

  -- page p comes in front
  pub push-listed : (p : ℕ) (l : Links) → p < no_page → ¬ Mem p xs → Listed (push I list p l) list (p ∷ xs)
  unfolding push
  push-listed p l page new =
      let h = first_in I list in
      let J = set_links I p (between l no_page h) in
      let first : next_of J (head list) ≡ h = written_next p page new (between l no_page h) (head list) (λ e. omega arith) ∙ next-head I list in
      linked-frame
      (λ q _. next-first (put_prev J h p) list p q ∙ upd-at (next_of (put_prev J h p)) (next_of J) (head list) p q (next-keeps J h p q))
      (λ q _. prev-first (put_prev J h p) list p q ∙ prev-sets J h p q ∙ ap (λ (v : ℕ). upd (prev_of J) v p q) (sym first))
      (linked-pushed no_page (head list) (next_of J) (prev_of J) xs once no_none no-head (written_listed p page new (between l no_page h)) p
      (λ e. omega arith) (λ e. omega arith) new
      (own-next p page new (between l no_page h) ∙ sym first)
      (own-prev p page new (between l no_page h)))

  -- page p takes the place of page r
  pub put-listed : (r p : ℕ) (l : Links) → Mem r xs → p < no_page → ¬ Mem p xs → Listed (put I list (I.links r) p l) list (replace r p xs)
  unfolding put
  put-listed r p l m page new =
      let a = (I.links r).prev.0 in
      let b = (I.links r).next.0 in
      let N = between l a b in
      let J = set_links I p N in
      let apart : r ≢ p = λ e. new (rw (← e) m) in
      let after : next_of J r ≡ b = written_next p page new N r apart ∙ next-page I r (pages r m) in
      let before : prev_of J r ≡ a = written-prev p page new N r apart in
      linked-frame
      (λ q _.
      next-keeps (put_next J list a p) b p q ∙ next-put J list a p (prev-most r m) q
      ∙ ap (λ (v : ℕ). upd (next_of J) (node no_page (head list) v) p q) (sym before))
      (λ q _.
      prev-sets (put_next J list a p) b p q
      ∙ upd-at (prev_of (put_next J list a p)) (prev_of J) b p q (prev-put J list a p q)
      ∙ ap (λ (v : ℕ). upd (prev_of J) v p q) (sym after))
      (linked-put no_page (head list) (next_of J) (prev_of J) xs once no_none no-head (written_listed p page new N) r p m
      (λ e. omega arith) (λ e. omega arith) new
      (own-next p page new N ∙ sym after)
      (own-prev p page new N ∙ sym before))

  -- ---- the pages around a page of the list, and the list's first page

  after_on : (p : ℕ) → Mem p xs → ((I.links p).next.0 ≡ no_page) ⊎ Mem (I.links p).next.0 xs
  after_on p m =
      let e : (I.links p).next.0 ≡ next_in no_page p xs =
      sym (next-page I p (pages p m)) ∙ K.nexts p (inr m) ∙ rw (ne_eqb (head list) p (λ d. no-head (rw d m))) in
      rw e (next_on no_page p xs)

  first_on : (zs : List ℕ) → (head_or no_page zs ≡ no_page) ⊎ Mem (head_or no_page zs) zs
  first_on [] = inl refl
  first_on (z ∷ zs) = inr (inl refl)

  first-is : (first_in I list ≡ no_page) ⊎ Mem (first_in I list) xs
  first-is =
      let e : first_in I list ≡ head_or no_page xs = sym (next-head I list) ∙ K.nexts (head list) (inl refl) ∙ rw (eq-eqb (head list) (head list) refl) in
      rw e (first_on xs)

  -- ---- pages that are not on the list keep their links

  module _ (q : ℕ) (low : q < no_page) (out : ¬ Mem q xs) where
    off-none : (x : ℕ) → (x ≡ no_page) ⊎ Mem x xs → q ≢ x
    off-none x (inl a) e = omega arith
    off-none x (inr n) e = out (rw e n)

    off-prev : (p : ℕ) → Mem p xs → q ≢ prev_of I p
    off-prev p m = go (prev-is p m)
      where
        go : Mem (prev_of I p) (no_page ∷ xs) → q ≢ prev_of I p
        go (inl a) = off-none (prev_of I p) (inl a)
        go (inr n) = off-none (prev_of I p) (inr n)

    pub unlink-off : (p : ℕ) → Mem p xs → (unlink I list (I.links p)).links q ≡ I.links q
    unfolding unlink
    unlink-off p m =
        let a = (I.links p).prev.0 in
        let b = (I.links p).next.0 in
        upd_other (put_next I list a b).links b _ q (off-none b (after_on p m)) ∙ next-off I list a b q (off-prev p m)

    pub push-off : (p : ℕ) (l : Links) → q ≢ p → (push I list p l).links q ≡ I.links q
    unfolding push
    push-off p l d =
        let h = first_in I list in
        let J = set_links I p (between l no_page h) in
        first_off (put_prev J h p) list p q ∙ upd_other J.links h _ q (off-none h first-is) ∙ upd_other I.links p (between l no_page h) q d

    pub put-off : (r p : ℕ) (l : Links) → Mem r xs → q ≢ p → (put I list (I.links r) p l).links q ≡ I.links q
    unfolding put
    put-off r p l m d =
        let a = (I.links r).prev.0 in
        let b = (I.links r).next.0 in
        let J = set_links I p (between l a b) in
        upd_other (put_next J list a p).links b _ q (off-none b (after_on r m)) ∙ next-off J list a p q (off-prev r m)
        ∙ upd_other I.links p (between l a b) q d

  -- ---- the nine other lists
  module _ (other : ℕ) (ys : List ℕ) (ne : other ≢ list) (low : (q : ℕ) → Mem q ys → q < no_page) (apart : (q : ℕ) → Mem q ys → ¬ Mem q xs)
      (O : Listed I other ys) where
    -- a place of the other list is none of this one's
    off : (q x : ℕ) → Mem q (head other ∷ ys) → Mem x (head list ∷ xs) → q ≢ x
    off q x (inl a) (inl b) e = ne (omega arith)
    off q x (inl a) (inr n) e = omega (arith, pages x n)
    off q x (inr m) (inl b) e = omega (arith, low q m)
    off q x (inr m) (inr n) e = apart q m (rw e n)

    -- where the page before p keeps its next
    node_on : (p : ℕ) → Mem p xs → Mem (node no_page (head list) (prev_of I p)) (head list ∷ xs)
    node_on p m = go (eq? (prev_of I p) no_page) (prev-is p m)
      where
        go : (prev_of I p ≡ no_page) ⊎ (prev_of I p ≢ no_page) → Mem (prev_of I p) (no_page ∷ xs) → Mem (node no_page (head list) (prev_of I p)) (head list ∷ xs)
        go (inl e) k = rw (eq-eqb (prev_of I p) no_page e) (inl refl)
        go (inr e) (inl k) = absurd (e k)
        go (inr e) (inr k) =
            let q : node no_page (head list) (prev_of I p) ≡ prev_of I p = rw (ne_eqb (prev_of I p) no_page e) refl in
            subst (λ (x : ℕ). Mem x (head list ∷ xs)) (sym q) (inr k)

    pub unlink-others : (p : ℕ) → Mem p xs → Listed (unlink I list (I.links p)) other ys
    unfolding unlink
    unlink-others p m =
        let a = (I.links p).prev.0 in
        let b = (I.links p).next.0 in
        linked-frame
        (λ q k. next-keeps (put_next I list a b) b a q ∙ next-put I list a b (prev-most p m) q ∙ upd_other (next_of I) _ b q (off q _ k (node_on p m)))
        (λ q k. prev-sets (put_next I list a b) b a q ∙ upd_other (prev_of (put_next I list a b)) b a q (off-none q (low q k) (apart q k) b (after_on p m)) ∙ prev-put I list a b q)
        O

    -- the new page is not on the other list
    module _ (p : ℕ) (page : p < no_page) (new : ¬ Mem p ys) where
      not_other : (q : ℕ) → Mem q (head other ∷ ys) → q ≢ p
      not_other q (inl e) d = omega arith
      not_other q (inr m) d = new (rw (← d) m)

      pub push-others : (l : Links) → Listed (push I list p l) other ys
      unfolding push
      push-others l =
          let h = first_in I list in
          let J = set_links I p (between l no_page h) in
          linked-frame
          (λ q k.
          next-first (put_prev J h p) list p q ∙ upd_other (next_of (put_prev J h p)) (head list) p q (off q (head list) k (inl refl))
          ∙ next-keeps J h p q ∙ next-links I p (between l no_page h) page q ∙ upd_other (next_of I) p h q (not_other q k))
          (λ q k.
          prev-first (put_prev J h p) list p q ∙ prev-sets J h p q ∙ upd_other (prev_of J) h p q (off-none q (low q k) (apart q k) h first-is)
          ∙ ap (λ (x : Links). x.prev.0) (upd_other I.links p (between l no_page h) q (not_other q (inr k))))
          O

-- ---- nothing but next, previous and first pages changes

pub record Relinked (I J : Image) : Type 0 where
  pub free_pages : J.free_pages ≡ I.free_pages
  pub map : J.map ≡ I.map
  pub class : (c : ℕ) → J.class c ≡ first_to (I.class c) (J.class c).first.0
  pub links : (q : ℕ) → J.links q ≡ between (I.links q) (prev_of J q) (J.links q).next.0

relinked_first : (I : Image) (list p : ℕ) → Relinked I (put_first I list p)
unfolding put_first pick
relinked_first I list p = go (eq? list 0)
  where
    class : (c : ℕ) → (c ≡ list - 1) ⊎ (c ≢ list - 1)
        → upd I.class (list - 1) (first_to (I.class (list - 1)) p) c ≡ first_to (I.class c) (upd I.class (list - 1) (first_to (I.class (list - 1)) p) c).first.0
    class c (inl e) = rw (e, upd_same I.class (list - 1) (first_to (I.class (list - 1)) p))
    class c (inr e) = rw (upd_other I.class (list - 1) (first_to (I.class (list - 1)) p) c e)

    go : (list ≡ 0) ⊎ (list ≢ 0) → Relinked I (put_first I list p)
    go (inl e) = rw (eq-eqb list 0 e) (record { free_pages = refl; map = refl; class = λ c. refl; links = λ q. refl })
    go (inr e) = rw (ne_eqb list 0 e) (record { free_pages = refl; map = refl; class = λ c. class c (eq? c (list - 1)); links = λ q. refl })

relinked_links : (I : Image) (p : ℕ) (l : Links) → l ≡ between (I.links p) l.prev.0 l.next.0 → Relinked I (set_links I p l)
relinked_links I p l e = record { free_pages = refl; map = refl; class = λ c. refl; links = λ q. go q (eq? q p) }
  where
    go : (q : ℕ) → (q ≡ p) ⊎ (q ≢ p) → upd I.links p l q ≡ between (I.links q) (upd I.links p l q).prev.0 (upd I.links p l q).next.0
    go q (inl d) = rw (d, upd_same I.links p l) e
    go q (inr d) = rw (upd_other I.links p l q d)

relinked_both : {I J K : Image} → Relinked I J → Relinked J K → Relinked I K
relinked_both {I} {J} {K} A B = record {
  free_pages = B.free_pages ∙ A.free_pages;
  map = B.map ∙ A.map;
  class = λ c. B.class c ∙ rw (A.class c);
  links = λ q. B.links q ∙ rw (A.links q);
}

relinked_next : (I : Image) (list p v : ℕ) → Relinked I (put_next I list p v)
unfolding put_next pick
relinked_next I list p v = go (eq? p no_page)
  where
    go : (p ≡ no_page) ⊎ (p ≢ no_page) → Relinked I (put_next I list p v)
    go (inl e) = rw (eq-eqb p no_page e) (relinked_first I list v)
    go (inr e) = rw (ne_eqb p no_page e) (relinked_links I p (next_to (I.links p) v) refl)

pub unlink_relinked : (I : Image) (list : ℕ) (l : Links) → Relinked I (unlink I list l)
unfolding unlink
unlink_relinked I list l = relinked_both (relinked_next I list l.prev.0 l.next.0) (relinked_links _ l.next.0 _ refl)

-- a new page's record is written first
pub push_relinked : (I : Image) (list p : ℕ) (l : Links) → Relinked (set_links I p (between l no_page (first_in I list))) (push I list p l)
unfolding push
push_relinked I list p l = relinked_both (relinked_links _ (first_in I list) _ refl) (relinked_first _ list p)

pub put_relinked : (I : Image) (list : ℕ) (old : Links) (p : ℕ) (l : Links)
    → Relinked (set_links I p (between l old.prev.0 old.next.0)) (put I list old p l)
unfolding put
put_relinked I list old p l = relinked_both (relinked_next _ list old.prev.0 p) (relinked_links _ old.next.0 _ refl)
