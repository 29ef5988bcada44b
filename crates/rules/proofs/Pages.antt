-- The pages that the fields show, by kind.
use mathlib.Core.Path.{◌≡◌, refl, sym, ap, ◌∙◌}
use mathlib.Core.Logic.{◌⊎◌, inl, inr, ◌≢◌}
use mathlib.Core.Bool.{Bool, true, false, ◌&&◌, false≢true}
use Prim.Native.Nat.{ℕ, zero, suc, ◌≤◌, ◌<◌}
use native.Mathlib.Omega.{arith}
use lib.Dec.{eqb, leb, ltb}
use borrow.Author.Tests.{eqb-true, eq-eqb, ne_eqb, ltb-true, lt-ltb, le-ltb, lt-leb, leb-true, not-true}
use Rattle.base.specs.Tests.{pick}
use Rattle.base.proofs.Cases.{lt?, never, and_true}
use Rattle.base.proofs.Tests.{both_true}
use Rattle.base.proofs.AllBelow.{pick_yes, pick_no, pick-both}
use Rattle.base.proofs.Search.{any_some}
use Rattle.model.specs.Classes.{has_clear}
use Rattle.model.specs.State.{Page, idle, slab, taken, inside, edge, is_idle, is_open}
use Rattle.model.proofs.Classes.{clear_at}
use Rattle.rules.specs.Fields.{Fields, kind, class, run, page_of, page_at}
use Rattle.rules.specs.Read.{is_head, open_at}
use Rattle.rules.specs.Plain.{Head, Open}

-- ---- from what a page is to its kind
module _ (c r : ℕ) (m : ℕ → Bool) where
  pub inside-kind : (k : ℕ) → page_of k c r m ≡ inside → k ≡ 4
  inside-kind zero e = absurd (never (cc))
  inside-kind (suc zero) e = absurd (never (cc))
  inside-kind (suc (suc zero)) e = absurd (never (cc))
  inside-kind (suc (suc (suc zero))) e = absurd (never (cc))
  inside-kind (suc (suc (suc (suc zero)))) e = refl
  inside-kind (suc (suc (suc (suc (suc k))))) e = absurd (never (cc))

  pub taken-kind : (k x : ℕ) → page_of k c r m ≡ taken x → (k ≡ 3) × (r ≡ x)
  taken-kind zero x e = absurd (never (cc))
  taken-kind (suc zero) x e = absurd (never (cc))
  taken-kind (suc (suc zero)) x e = absurd (never (cc))
  taken-kind (suc (suc (suc zero))) x e = (refl, cc)
  taken-kind (suc (suc (suc (suc zero)))) x e = absurd (never (cc))
  taken-kind (suc (suc (suc (suc (suc k))))) x e = absurd (never (cc))

  pub edge-kind : (k : ℕ) → page_of k c r m ≡ edge → 4 < k
  edge-kind zero e = absurd (never (cc))
  edge-kind (suc zero) e = absurd (never (cc))
  edge-kind (suc (suc zero)) e = absurd (never (cc))
  edge-kind (suc (suc (suc zero))) e = absurd (never (cc))
  edge-kind (suc (suc (suc (suc zero)))) e = absurd (never (cc))
  edge-kind (suc (suc (suc (suc (suc k))))) e = omega arith

  -- a free page has kind 0 or 1
  idle-kind : (k : ℕ) → is_idle (page_of k c r m) ≡ leb k 1
  idle-kind zero = refl
  idle-kind (suc zero) = refl
  idle-kind (suc (suc zero)) = refl
  idle-kind (suc (suc (suc zero))) = refl
  idle-kind (suc (suc (suc (suc zero)))) = refl
  idle-kind (suc (suc (suc (suc (suc k))))) = sym (lt-leb (suc (suc (suc (suc (suc k))))) 1 (omega arith))

  kind-idle : (k : ℕ) → k ≤ 1 → page_of k c r m ≡ idle
  kind-idle zero h = refl
  kind-idle (suc zero) h = refl
  kind-idle (suc (suc k)) h = absurd (omega arith)

module _ (v : Fields) (n : ℕ) where
  pub page_in : (p : ℕ) → p < n → page_at v n p ≡ page_of (kind v p) (class v p) (run v p) (v.mark p)
  unfolding page_at
  page_in p h = pick_yes _ _ _ (lt-ltb p n h)

  pub page-past : (p : ℕ) → n ≤ p → page_at v n p ≡ edge
  unfolding page_at
  page-past p h = pick_no _ _ _ (le-ltb p n h)

  -- a page of kind k
  pub page-kind : (p k : ℕ) → p < n → kind v p ≡ k → page_at v n p ≡ page_of k (class v p) (run v p) (v.mark p)
  page-kind p k h e = page_in p h ∙ ap (λ (x : ℕ). page_of x (class v p) (run v p) (v.mark p)) e

  pub page-idle : (p : ℕ) → p < n → kind v p ≤ 1 → page_at v n p ≡ idle
  page-idle p h k = page_in p h ∙ kind-idle _ _ _ (kind v p) k

  -- a page that is something is there
  pub there : (p : ℕ) (x : Page) → page_at v n p ≡ x → x ≢ edge → p < n
  there p x e d = go (lt? p n)
    where
      go : (p < n) ⊎ (n ≤ p) → p < n
      go (inl h) = h
      go (inr h) = absurd (d (sym e ∙ page-past p h))

  pub idle_test : (p : ℕ) → p < n → is_idle (page_at v n p) ≡ leb (kind v p) 1
  idle_test p h = ap is_idle (page_in p h) ∙ idle-kind _ _ _ (kind v p)

  pub idle_there : (p : ℕ) → is_idle (page_at v n p) ≡ true → (p < n) × (kind v p ≤ 1)
  idle_there p e = go (lt? p n)
    where
      go : (p < n) ⊎ (n ≤ p) → (p < n) × (kind v p ≤ 1)
      go (inl h) = (h, leb-true _ _ (sym (idle_test p h) ∙ e))
      go (inr h) = absurd (false≢true (rw (page-past p h) at e))

  -- ---- whatever tells class pages from all others
  module _ {A : Type 0} (F : Page → A) (z : A) (on-idle : F idle ≡ z) (on-taken : (r : ℕ) → F (taken r) ≡ z) (on-inside : F inside ≡ z) (on_edge : F edge ≡ z) where
    pub slab_test : (p : ℕ) → F (page_at v n p) ≡ pick (ltb p n) (pick (eqb (kind v p) 2) (F (slab (class v p) (v.mark p))) z) z
    unfolding pick
    slab_test p = place (lt? p n)
      where
        go : (k : ℕ) → F (page_of k (class v p) (run v p) (v.mark p)) ≡ pick (eqb k 2) (F (slab (class v p) (v.mark p))) z
        go zero = on-idle
        go (suc zero) = on-idle
        go (suc (suc zero)) = refl
        go (suc (suc (suc zero))) = on-taken (run v p)
        go (suc (suc (suc (suc zero)))) = on-inside
        go (suc (suc (suc (suc (suc k))))) = rw (ne_eqb (suc (suc (suc (suc (suc k))))) 2 (omega arith)) on_edge

        place : (p < n) ⊎ (n ≤ p) → F (page_at v n p) ≡ pick (ltb p n) (pick (eqb (kind v p) 2) (F (slab (class v p) (v.mark p))) z) z
        place (inl h) = rw (page_in p h, lt-ltb p n h) (go (kind v p))
        place (inr h) = rw (page-past p h, le-ltb p n h) on_edge

  -- ---- the pages that belong on a list
  pub head-says : (p : ℕ) → is_head v n p ≡ true → Head v n p
  unfolding is_head Head
  head-says p e = let x = both_true _ _ e in (ltb-true _ _ x.0, eqb-true _ _ x.1)

  pub says-head : (p : ℕ) → Head v n p → is_head v n p ≡ true
  unfolding is_head Head
  says-head p (h, k) = pick-both _ _ (lt-ltb p n h) (eq-eqb (kind v p) 1 k)

  pub open_test : (c p : ℕ) → open_at v n c p ≡ pick (ltb p n) (pick (eqb (kind v p) 2) (eqb (class v p) c && has_clear c (v.mark p)) false) false
  unfolding open_at is_open
  open_test c p = slab_test (is_open c) false refl (λ r. refl) refl refl p

  pub open_says : (c p : ℕ) → open_at v n c p ≡ true → Open v n c p
  unfolding Open has_clear
  open_says c p e =
      let x = both_true _ _ (sym (open_test c p) ∙ e) in
      let y = both_true _ _ x.1 in
      let (d, k) = and_true _ _ y.1 in
      let (i, l, o) = any_some _ _ k in
      (ltb-true _ _ x.0, eqb-true _ _ y.0, eqb-true _ _ d, i, l, not-true _ o)

  pub says_open : (c p : ℕ) → Open v n c p → open_at v n c p ≡ true
  unfolding Open
  says_open c p (h, k, d, i, l, o) =
      open_test c p ∙ pick-both _ _ (lt-ltb p n h) (pick-both _ _ (eq-eqb (kind v p) 2 k) (rw (eq-eqb (class v p) c d, clear_at c (v.mark p) i l o)))
