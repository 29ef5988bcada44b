-- Rule 2 as a test and in plain form: the shape, and the links.
use mathlib.Core.Path.{◌≡◌, refl}
use mathlib.Core.Logic.{◌↔◌}
use mathlib.Core.Bool.{true, false≢true}
use Prim.Native.Nat.{ℕ, zero, suc, ◌+◌, ◌≤◌, ◌<◌}
use native.Mathlib.Omega.{arith}
use borrow.Author.Tests.{eqb-true, eq-eqb, ltb-true, lt-ltb}
use Rattle.base.proofs.Tests.{both_true}
use Rattle.base.proofs.AllBelow.{pick-both, asked, if_asked, all-at, at_all}
use Rattle.rules.specs.Fields.{Fields, kind, run}
use Rattle.rules.specs.Rules.{kind_at, inside_links, last_back, no_links, by_kind, shape_at, shape, links_fit_at, rule2_at, rule2}
use Rattle.rules.specs.Plain.{LinksHold, Rule2}
use Rattle.rules.proofs.Shape.{shape-says, says-shape}

module _ (v : Fields) (n : ℕ) where
  -- both tests, of each page
  parts : rule2 v n ≡ true → (p : ℕ) → p < n → (shape_at v n p ≡ true) × (links_fit_at v n p ≡ true)
  unfolding rule2 rule2_at
  parts e p h = both_true _ _ (all-at (rule2_at v n) n e p h)

  pub rule2-shape : rule2 v n ≡ true → shape v n ≡ true
  unfolding shape
  rule2-shape e = at_all (shape_at v n) n (λ p h. (parts e p h).0)

  -- ---- the links, from the tests
  module _ (fit : (p : ℕ) → p < n → links_fit_at v n p ≡ true) where
    spare : (p : ℕ) → p < n → v.spare p ≡ 0
    unfolding links_fit_at
    spare p h = eqb-true _ _ (both_true _ _ (fit p h)).0

    at : (p : ℕ) → p < n → by_kind (kind v p) (inside_links v n p) (last_back v p (run v p)) true (no_links v p) (no_links v p) ≡ true
    unfolding links_fit_at
    at p h = (both_true _ _ (fit p h)).1

    inside : (p : ℕ) → p < n → kind v p ≡ 0 → inside_links v n p ≡ true
    inside p h k = rw k at (at p h)

    links_say : LinksHold v n
    unfolding inside_links last_back no_links kind_at
    links_say = record {
      spare = spare;
      inside-next = λ p h k. eqb-true _ _ (both_true _ _ (inside p h k)).0;
      inside-prev = λ p h k a b.
          eqb-true _ _ (asked _ _ (both_true _ _ (inside p h k)).1 (pick-both _ _ (lt-ltb (p + 1) n a) (eq-eqb (kind v (p + 1)) 0 b)));
      back = λ p h k a. eqb-true _ _ (asked _ _ (first p h k) (lt-ltb 1 (run v p) a));
      taken = λ p h k. let x = both_true _ _ (none p (kind v p) k (at p h)) in (eqb-true _ _ x.0, eqb-true _ _ x.1);
    }
      where
        first : (p : ℕ) → p < n → kind v p ≡ 1 → last_back v p (run v p) ≡ true
        first p h k = rw k at (at p h)

        none : (p k : ℕ) → 2 < k → by_kind k (inside_links v n p) (last_back v p (run v p)) true (no_links v p) (no_links v p) ≡ true → no_links v p ≡ true
        none p zero l e = absurd (omega arith)
        none p (suc zero) l e = absurd (omega arith)
        none p (suc (suc zero)) l e = absurd (omega arith)
        none p (suc (suc (suc zero))) l e = e
        none p (suc (suc (suc (suc zero)))) l e = e
        none p (suc (suc (suc (suc (suc k))))) l e = absurd (false≢true e)

  -- ---- to the tests
  module _ (L : LinksHold v n) where
    holds_at : (p : ℕ) → p < n → (k : ℕ) → kind v p ≡ k → k ≤ 4 →
        by_kind k (inside_links v n p) (last_back v p (run v p)) true (no_links v p) (no_links v p) ≡ true
    unfolding inside_links last_back no_links kind_at
    holds_at p h zero k l =
        pick-both _ _ (eq-eqb _ _ (L.inside-next p h k))
        (if_asked _ _ (λ t. let (a, b) = both_true _ _ t in eq-eqb _ _ (L.inside-prev p h k (ltb-true _ _ a) (eqb-true _ _ b))))
    holds_at p h (suc zero) k l = if_asked _ _ (λ t. eq-eqb _ _ (L.back p h k (ltb-true _ _ t)))
    holds_at p h (suc (suc zero)) k l = refl
    holds_at p h (suc (suc (suc zero))) k l = let (a, b) = L.taken p h (omega arith) in pick-both _ _ (eq-eqb _ _ a) (eq-eqb _ _ b)
    holds_at p h (suc (suc (suc (suc zero)))) k l = let (a, b) = L.taken p h (omega arith) in pick-both _ _ (eq-eqb _ _ a) (eq-eqb _ _ b)
    holds_at p h (suc (suc (suc (suc (suc j))))) k l = absurd (omega arith)

    say_links : (p : ℕ) → p < n → kind v p ≤ 4 → links_fit_at v n p ≡ true
    unfolding links_fit_at
    say_links p h l = pick-both _ _ (eq-eqb (v.spare p) 0 (L.spare p h)) (holds_at p h (kind v p) refl l)

  pub rule2-says : rule2 v n ≡ true → Rule2 v n
  rule2-says e = record { shape = shape-says v n (rule2-shape e); links = links_say (λ p h. (parts e p h).1) }

  pub says-rule2 : Rule2 v n → rule2 v n ≡ true
  unfolding rule2 rule2_at shape
  says-rule2 R =
      at_all (rule2_at v n) n (λ p h.
      pick-both _ _ (all-at (shape_at v n) n (says-shape v n R.shape) p h) (say_links R.links p h (R.shape.kinds p h)))

  pub rule2_iff : (rule2 v n ≡ true) ↔ Rule2 v n
  rule2_iff = (rule2-says, says-rule2)
