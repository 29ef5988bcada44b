-- The first pages of the free runs when runs leave the list and when one is cut.
use mathlib.Core.Path.{subst, sym, ◌≡◌, refl, ap}
use mathlib.Core.Logic.{inl, inr}
use mathlib.Core.Bool.{Bool, true, false, cond, ◌&&◌}
use mathlib.Core.Option.{some}
use mathlib.Core.List.{List, [], ◌∷◌, ◌++◌}
use Prim.Native.Nat.{ℕ, ◌+◌, ◌-◌}
use lib.Dec.{leb, ltb}
use borrow.Author.Tests.{eq-eqb, ne_eqb}
use Rattle.base.specs.Lists.{Mem, NoDup, keep}
use Rattle.base.specs.Links.{others, replace}
use Rattle.base.proofs.Cases.{never}
use Rattle.model.specs.State.{Run}
use Rattle.model.specs.Runs.{fit, cut_front, carve}
use Rattle.model.proofs.Runs.{fit_found}
use Rattle.rules.specs.Drawn.{starts}
use Rattle.rules.proofs.Runs.{start-mem}

pub keep_every : {A : Type 0} (q : A → Bool) (xs : List A) → ((x : A) → Mem x xs → q x ≡ true) → keep q xs ≡ xs
keep_every q [] e = refl
keep_every {A} q (y ∷ ys) e = rw (e y (inl refl)) (ap (λ (l : List A). y ∷ l) (keep_every q ys (λ x m. e x (inr m))))

pub keep-both : (q q₁ q₂ : Run → Bool) (rs : List Run) → ((x : Run) → q x ≡ q₁ x && q₂ x) → keep q rs ≡ keep q₁ (keep q₂ rs)
keep-both q q₁ q₂ [] e = refl
keep-both q q₁ q₂ (y ∷ ys) e = rw (e y) (go (q₁ y) refl (q₂ y) (keep-both q q₁ q₂ ys e))
  where
    go : (t : Bool) → q₁ y ≡ t → (u : Bool) → keep q ys ≡ keep q₁ (keep q₂ ys) → cond (t && u) (y ∷ keep q ys) (keep q ys) ≡ keep q₁ (cond u (y ∷ keep q₂ ys) (keep q₂ ys))
    go true e true ih = rw e (ap (λ (l : List Run). y ∷ l) ih)
    go false e true ih = rw e ih
    go true e false ih = ih
    go false e false ih = ih

pub starts-keep : (q : Run → Bool) (p : ℕ → Bool) (rs : List Run) → ((x : Run) → Mem x rs → q x ≡ p x.start) → starts (keep q rs) ≡ keep p (starts rs)
starts-keep q p [] e = refl
starts-keep q p (y ∷ ys) e = rw (e y (inl refl)) (go (p y.start) (starts-keep q p ys (λ x m. e x (inr m))))
  where
    go : (t : Bool) → starts (keep q ys) ≡ keep p (starts ys) → starts (cond t (y ∷ keep q ys) (keep q ys)) ≡ cond t (y.start ∷ keep p (starts ys)) (keep p (starts ys))
    go true ih = ap (λ (l : List ℕ). y.start ∷ l) ih
    go false ih = ih

-- what remains keeps the run's place; an exact fit leaves the list
pub starts-carve : (k : ℕ) (rs : List Run) (r : Run) → fit k rs ≡ some r → NoDup (starts rs) →
    starts (carve k rs) ≡ cond (ltb k r.len) (replace r.start (r.start + k) (starts rs)) (keep (others r.start) (starts rs))
unfolding cut_front others
starts-carve k [] r e once = absurd (never (cc))
starts-carve k (y ∷ ys) r e once = go (leb k y.len) e (starts-carve k ys r)
  where
    go : (t : Bool) → cond t (some y) (fit k ys) ≡ some r →
        (fit k ys ≡ some r → NoDup (starts ys) → starts (carve k ys) ≡ cond (ltb k r.len) (replace r.start (r.start + k) (starts ys)) (keep (others r.start) (starts ys))) →
        starts (cond t (cut_front k y ++ ys) (y ∷ carve k ys)) ≡
        cond (ltb k r.len) (replace r.start (r.start + k) (starts (y ∷ ys))) (keep (others r.start) (starts (y ∷ ys)))
    go true e ih =
        let q : y ≡ r = cc in
        let kept : keep (others y.start) (starts (y ∷ ys)) ≡ starts ys =
        rw (eq-eqb y.start y.start refl) (keep_every (others y.start) (starts ys) (λ x m. rw (ne_eqb x y.start (λ d. once.0 (rw (← d) m))))) in
        subst
        (λ (x : Run). starts (cut_front k y ++ ys) ≡ cond (ltb k x.len) (replace x.start (x.start + k) (starts (y ∷ ys))) (keep (others x.start) (starts (y ∷ ys))))
        q
        (subst
        (λ (w : List ℕ). starts (cut_front k y ++ ys) ≡ cond (ltb k y.len) (replace y.start (y.start + k) (starts (y ∷ ys))) w)
        (sym kept)
        (rw (eq-eqb y.start y.start refl) (side (ltb k y.len))))
      where
        side : (t : Bool) → starts (cond t (record { start = y.start + k; len = y.len - k } ∷ []) [] ++ ys) ≡ cond t ((y.start + k) ∷ starts ys) (starts ys)
        side true = refl
        side false = refl
    go false e ih =
        rw (ih e once.1, ne_eqb y.start r.start (λ d. once.0 (rw d (start-mem ys r (fit_found k ys r e).0)))) (side (ltb k r.len))
      where
        side : (t : Bool) → y.start ∷ cond t (replace r.start (r.start + k) (starts ys)) (keep (others r.start) (starts ys)) ≡
            cond t (y.start ∷ replace r.start (r.start + k) (starts ys)) (y.start ∷ keep (others r.start) (starts ys))
        side true = refl
        side false = refl
