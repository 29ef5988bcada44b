-- The walk of rules 3 and 4 holds exactly where next and previous show a list that holds each page that passes the test once.
use mathlib.Core.Path.{◌≡◌, refl, sym, ap, ◌∙◌, subst}
use mathlib.Core.Logic.{◌⊎◌, inl, inr, ◌≢◌}
use mathlib.Core.Bool.{Bool, true, false}
use mathlib.Core.List.{List, [], ◌∷◌}
use Prim.Native.Nat.{ℕ, zero, suc, ◌≤◌, ◌<◌}
use native.Mathlib.Omega.{arith}
use lib.Dec.{eqb}
use lib.ListN.{length}
use borrow.Author.Tests.{eqb-true, eq-eqb, ne_eqb}
use Rattle.base.specs.Tests.{pick}
use Rattle.base.specs.Count.{count}
use Rattle.base.specs.Lists.{Mem, NoDup}
use Rattle.base.specs.Links.{head_or, next_in, prev_from}
use Rattle.base.proofs.Cases.{eq?}
use Rattle.base.proofs.Tests.{both_true}
use Rattle.base.proofs.AllBelow.{pick-both, pick_same}
use Rattle.base.proofs.Lists.{mem_cast}
use Rattle.base.proofs.Pigeonhole.{all_listed, count-listed}
use Rattle.records.specs.Layout.{no_page}
use Rattle.rules.specs.Read.{trail}
use Rattle.rules.specs.Rules.{linked}
use Rattle.rules.specs.Plain.{Lists}

-- from h on, next leads through the pages of the list, all below n, to no page; previous leads back, to b at last
abbrev Chain : ℕ → (ℕ → ℕ) → (ℕ → ℕ) → ℕ → ℕ → List ℕ → Type 0
Chain n nx pv b h [] = h ≡ no_page
Chain n nx pv b h (p ∷ L) = (h ≡ p) × (p < n) × (pv p ≡ b) × Chain n nx pv p (nx p) L

-- ---- no page comes twice: previous tells how many pages came before
module _ (n : ℕ) (nx pv : ℕ → ℕ) (few : n ≤ no_page) where
  -- from x on, previous leads through the pages of the list to no page
  abbrev Back : List ℕ → ℕ → Type 0
  Back [] x = x ≡ no_page
  Back (y ∷ ys) x = (x ≡ y) × (y < n) × Back ys (pv y)

  back_unique : (ys zs : List ℕ) (x : ℕ) → Back ys x → Back zs x → length ys ≡ length zs
  back_unique [] [] x c d = refl
  back_unique [] (z ∷ zs) x c d = absurd (omega (arith, c, d.0, d.1))
  back_unique (y ∷ ys) [] x c d = absurd (omega (arith, d, c.0, c.1))
  back_unique (y ∷ ys) (z ∷ zs) x c d =
      ap suc (back_unique ys zs (pv y) c.2 (subst (λ (w : ℕ). Back zs (pv w)) (sym d.0 ∙ c.0) d.2))

  back_from : (ys : List ℕ) (x q : ℕ) → Back ys x → Mem q ys → (zs : List ℕ) × Back zs q × (length zs ≤ length ys)
  back_from (y ∷ ys) x q c (inl e) = (y ∷ ys, (e, c.1, c.2), omega arith)
  back_from (y ∷ ys) x q c (inr m) = let r = back_from ys (pv y) q c.2 m in (r.0, r.1, omega (arith, r.2))
  back_from [] x q c x4 = elim x4 [ ]

  fresh : (ys : List ℕ) (p : ℕ) → p < n → Back ys (pv p) → Mem p ys → ⊥
  fresh ys p l c m =
      let r = back_from ys (pv p) p c m in
      let e : length r.0 ≡ suc (length ys) = back_unique r.0 (p ∷ ys) p r.1 (refl, l, c) in
      omega (arith, r.2, e)

  apart : (L ys : List ℕ) (b h : ℕ) → Back ys b → Chain n nx pv b h L → (q : ℕ) → Mem q ys → Mem q L → ⊥
  apart (p ∷ L) ys b h k c q m (inl e) = fresh ys p c.1 (rw c.2 k) (subst (λ (x : ℕ). Mem x ys) e m)
  apart (p ∷ L) ys b h k c q m (inr i) = apart L (p ∷ ys) p (nx p) (refl, c.1, rw c.2 k) c.3 q (inr m) i
  apart [] ys b h k c q m x4 = elim x4 [ ]

  distinct : (L ys : List ℕ) (b h : ℕ) → Back ys b → Chain n nx pv b h L → NoDup L
  distinct [] ys b h k c = tt
  distinct (p ∷ L) ys b h k c =
      let k' : Back (p ∷ ys) p = (refl, c.1, rw c.2 k) in
      (λ m. apart L (p ∷ ys) p (nx p) k' c.3 p (inl refl) m, distinct L (p ∷ ys) p (nx p) k' c.3)

-- ---- a chain and a list as links
module _ (n : ℕ) (nx pv : ℕ → ℕ) where
  chain_head : (L : List ℕ) (b h : ℕ) → Chain n nx pv b h L → h ≡ head_or no_page L
  chain_head [] b h c = c
  chain_head (p ∷ L) b h c = c.0

  chain_next : (L : List ℕ) (b h : ℕ) → Chain n nx pv b h L → (q : ℕ) → Mem q L → nx q ≡ next_in no_page q L
  chain_next (p ∷ L) b h c q m = go (eq? p q) m (chain_next L p (nx p) c.3 q)
    where
      go : (p ≡ q) ⊎ (p ≢ q) → Mem q (p ∷ L) → (Mem q L → nx q ≡ next_in no_page q L) → nx q ≡ next_in no_page q (p ∷ L)
      go (inl e) m ih = rw (eq-eqb p q e) (sym (ap nx e) ∙ chain_head L p (nx p) c.3)
      go (inr d) (inl e) ih = absurd (d (sym e))
      go (inr d) (inr m) ih = rw (ne_eqb p q d) (ih m)
  chain_next [] b h c q m = elim m [ ]

  chain_prev : (L : List ℕ) (b h : ℕ) → Chain n nx pv b h L → (q : ℕ) → Mem q L → pv q ≡ prev_from no_page b q L
  chain_prev (p ∷ L) b h c q m = go (eq? p q) m (chain_prev L p (nx p) c.3 q)
    where
      go : (p ≡ q) ⊎ (p ≢ q) → Mem q (p ∷ L) → (Mem q L → pv q ≡ prev_from no_page p q L) → pv q ≡ prev_from no_page b q (p ∷ L)
      go (inl e) m ih = rw (eq-eqb p q e) (sym (ap pv e) ∙ c.2)
      go (inr d) (inl e) ih = absurd (d (sym e))
      go (inr d) (inr m) ih = rw (ne_eqb p q d) (ih m)
  chain_prev [] b h c q m = elim m [ ]

  chain_of : (L : List ℕ) (b : ℕ) → NoDup L → ((q : ℕ) → Mem q L → q < n) → ((q : ℕ) → Mem q L → nx q ≡ next_in no_page q L)
      → ((q : ℕ) → Mem q L → pv q ≡ prev_from no_page b q L) → Chain n nx pv b (head_or no_page L) L
  chain_of [] b d l x y = refl
  chain_of (p ∷ L) b d l x y = (
    refl,
    l p (inl refl),
    y p (inl refl) ∙ rw (eq-eqb p p refl),
    subst (λ (h : ℕ). Chain n nx pv p h L) (sym (x p (inl refl) ∙ rw (eq-eqb p p refl)))
        (chain_of L p d.1 (λ q m. l q (inr m))
        (λ q m. x q (inr m) ∙ rw (ne_eqb p q (other q m)))
        (λ q m. y q (inr m) ∙ rw (ne_eqb p q (other q m)))),
  )
    where
      other : (q : ℕ) → Mem q L → p ≢ q
      other q m e = d.0 (mem_cast L e m)

  chain_linked : (good : ℕ → Bool) (L : List ℕ) (b h : ℕ) → Chain n nx pv b h L → ((q : ℕ) → Mem q L → good q ≡ true) →
      linked good nx pv (length L) b h ≡ true
  unfolding linked
  chain_linked good [] b h c g = eq-eqb _ _ c
  chain_linked good (p ∷ L) b h c g =
      rw c.0
      (pick-both _ _ (g p (inl refl)) (pick-both _ _ (eq-eqb _ _ c.2) (chain_linked good L p (nx p) c.3 (λ q m. g q (inr m)))))

  chain_trail : (L : List ℕ) (b h : ℕ) → Chain n nx pv b h L → trail nx (length L) h ≡ L
  chain_trail [] b h c = refl
  chain_trail (p ∷ L) b h c = rw c.0 (ap (λ (l : List ℕ). p ∷ l) (chain_trail L p (nx p) c.3))

-- ---- the neighbours of a page that is not on the list
pub next-off : (L : List ℕ) (q : ℕ) → ¬ Mem q L → next_in no_page q L ≡ no_page
next-off [] q out = refl
next-off (p ∷ L) q out = rw (ne_eqb p q (λ e. out (inl (sym e)))) (next-off L q (λ m. out (inr m)))

pub prev-off : (L : List ℕ) (b q : ℕ) → ¬ Mem q L → prev_from no_page b q L ≡ no_page
prev-off [] b q out = refl
prev-off (p ∷ L) b q out = rw (ne_eqb p q (λ e. out (inl (sym e)))) (prev-off L p q (λ m. out (inr m)))

-- ---- the walk
module _ (n : ℕ) (good : ℕ → Bool) (nx pv : ℕ → ℕ) (below : (q : ℕ) → good q ≡ true → q < n) where
  linked-good : (k b h : ℕ) → linked good nx pv k b h ≡ true → (q : ℕ) → Mem q (trail nx k h) → good q ≡ true
  unfolding linked
  linked-good (suc k) b h e q (inl x) = rw x (both_true _ _ e).0
  linked-good (suc k) b h e q (inr m) = linked-good k h (nx h) (both_true _ _ (both_true _ _ e).1).1 q m
  linked-good zero b h e q x'' = elim x'' [ ]

  linked_chain : (k b h : ℕ) → linked good nx pv k b h ≡ true → Chain n nx pv b h (trail nx k h)
  unfolding linked
  linked_chain zero b h e = eqb-true _ _ e
  linked_chain (suc k) b h e =
      let x = both_true _ _ e in
      let y = both_true _ _ x.1 in
      (refl, below h x.0, eqb-true _ _ y.0, linked_chain k h (nx h) y.1)

  trail-length : (k h : ℕ) → length (trail nx k h) ≡ k
  trail-length zero h = refl
  trail-length (suc k) h = ap suc (trail-length k (nx h))

  -- a walk through as many pages as pass the test, which then ends
  pub walk_lists : n ≤ no_page → (h : ℕ) → linked good nx pv (count good n) no_page h ≡ true →
      Lists (λ p. good p ≡ true) nx pv h (trail nx (count good n) h)
  walk_lists few h e =
      let L = trail nx (count good n) h in
      let c : Chain n nx pv no_page h L = linked_chain (count good n) no_page h e in
      let d : NoDup L = distinct n nx pv few L [] no_page h refl c in
      let g : (q : ℕ) → Mem q L → good q ≡ true = linked-good (count good n) no_page h e in
      record {
        once = d;
        holds = g;
        all = λ q t. all_listed good n L d (λ p m. (below p (g p m), g p m)) (trail-length (count good n) h) q (below q t) t;
        entry = chain_head n nx pv L no_page h c;
        nexts = chain_next n nx pv L no_page h c;
        prevs = chain_prev n nx pv L no_page h c;
      }

  pub lists_walk : (h : ℕ) (L : List ℕ) → Lists (λ p. good p ≡ true) nx pv h L →
      (linked good nx pv (count good n) no_page h ≡ true) × (trail nx (count good n) h ≡ L)
  lists_walk h L K =
      let c : Chain n nx pv no_page (head_or no_page L) L = chain_of n nx pv L no_page K.once (λ q m. below q (K.holds q m)) K.nexts K.prevs in
      let k : count good n ≡ length L = count-listed good n L K.once (λ q m. (below q (K.holds q m), K.holds q m)) (λ p _ t. K.all p t) in
      rw (k, K.entry) (chain_linked n nx pv good L no_page (head_or no_page L) c K.holds, chain_trail n nx pv L no_page (head_or no_page L) c)

-- pages with one property are those with another
pub lists-alike : {Good Fine : ℕ → Type 0} {nx pv : ℕ → ℕ} {h : ℕ} {L : List ℕ} → ((p : ℕ) → Good p → Fine p) → ((p : ℕ) → Fine p → Good p) →
    Lists Good nx pv h L → Lists Fine nx pv h L
lists-alike f g K = record {
  once = K.once;
  holds = λ p m. f p (K.holds p m);
  all = λ p t. K.all p (g p t);
  entry = K.entry;
  nexts = K.nexts;
  prevs = K.prevs;
}

-- a walk depends only on the pages that pass the test
module _ (good : ℕ → Bool) {nx nx' : ℕ → ℕ} (same_next : (q : ℕ) → good q ≡ true → nx q ≡ nx' q) where
  pub linked_same : {pv pv' : ℕ → ℕ} → ((q : ℕ) → good q ≡ true → pv q ≡ pv' q) → (k b h : ℕ) → linked good nx pv k b h ≡ linked good nx' pv' k b h
  unfolding linked
  linked_same e zero b h = refl
  linked_same {pv} {pv'} e (suc k) b h =
      pick_same (good h) (good h) refl
      (λ t. rw (e h t, same_next h t) (ap (λ (x : Bool). pick (eqb (pv' h) b) x false) (linked_same e k h (nx' h)))) (λ t. refl)

  pub trail_same : (pv : ℕ → ℕ) (k b h : ℕ) → linked good nx pv k b h ≡ true → trail nx k h ≡ trail nx' k h
  unfolding linked
  trail_same pv zero b h e = refl
  trail_same pv (suc k) b h e =
      let x = both_true _ _ e in
      ap (λ (l : List ℕ). h ∷ l) (trail_same pv k h (nx h) (both_true _ _ x.1).1 ∙ ap (trail nx' k) (same_next h x.0))
