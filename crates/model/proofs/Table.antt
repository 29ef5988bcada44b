-- The page table stays well formed when a stretch of it that no taken run crosses is replaced.
use mathlib.Core.Path.{◌≡◌, refl, sym, ◌∙◌, subst}
use mathlib.Core.Logic.{◌⊎◌, inl, inr, ◌≢◌}
use mathlib.Core.Bool.{Bool, true, false}
use Prim.Native.Nat.{ℕ, ◌+◌, ◌≤◌, ◌<◌}
use native.Mathlib.Omega.{arith}
use Rattle.base.proofs.Cases.{never, eq?, lt?, Out, in?}
use Rattle.model.specs.State.{Page, idle, slab, taken, inside, edge, is_idle}
use Rattle.model.specs.WellFormed.{ClassOk, PageOk, TableOk}

pub is_idle_lem : (x : Page) → is_idle x ≡ true → x ≡ idle
is_idle_lem idle e = refl
is_idle_lem (slab c m) e = absurd (never (cc))
is_idle_lem (taken n) e = absurd (never (cc))
is_idle_lem inside e = absurd (never (cc))
is_idle_lem edge e = absurd (never (cc))

pub not-idle : (x : Page) → x ≢ idle → is_idle x ≡ false
not-idle idle e = absurd (e refl)
not-idle (slab c m) e = refl
not-idle (taken n) e = refl
not-idle inside e = refl
not-idle edge e = refl

-- a page that is not the edge lies in the table
pub in_table : {size : ℕ} {f : ℕ → Page} → TableOk size f → (p : ℕ) → f p ≢ edge → p < size
in_table {size} ok p h = go (lt? p size)
  where
    go : (p < size) ⊎ (size ≤ p) → p < size
    go (inl l) = l
    go (inr l) = absurd (h (ok.past p l))

-- what is known of a class page, and of the first page of a taken run
module _ {size : ℕ} {f : ℕ → Page} (ok : TableOk size f) {p : ℕ} where
  pub slab_ok : {c : ℕ} {m : ℕ → Bool} → f p ≡ slab c m → ClassOk c m
  slab_ok e = subst PageOk e (ok.each p)

  pub taken_ok : {n : ℕ} → f p ≡ taken n → 1 ≤ n
  taken_ok e = subst PageOk e (ok.each p)

-- in the k pages from a on a taken run can only be the k pages
pub record Solid (f : ℕ → Page) (a k : ℕ) : Type 0 where
  pub whole : (j n : ℕ) → a ≤ j → j < a + k → f j ≡ taken n → (j ≡ a) × (n ≡ k)
  pub headed : (j : ℕ) → a ≤ j → j < a + k → f j ≡ inside → (a < j) × (f a ≡ taken k)

pub solid_idle : (f : ℕ → Page) (a k : ℕ) → ((j : ℕ) → a ≤ j → j < a + k → f j ≡ idle) → Solid f a k
solid_idle f a k h = record {
  whole = λ j n l u e. absurd (never (cc (h j l u)));
  headed = λ j l u e. absurd (never (cc (h j l u)));
}

pub solid_slab : (f : ℕ → Page) (a c : ℕ) (m : ℕ → Bool) → f a ≡ slab c m → Solid f a 1
solid_slab f a c m h = record {
  whole = λ j n l u e. let p : j ≡ a = omega arith in absurd (never (cc));
  headed = λ j l u e. let p : j ≡ a = omega arith in absurd (never (cc));
}

pub solid_run : (f : ℕ → Page) (a k : ℕ) → f a ≡ taken k → ((j : ℕ) → a < j → j < a + k → f j ≡ inside) → Solid f a k
solid_run f a k h i = record {
  whole = λ j n l u e. whole' j n l u e (eq? j a);
  headed = λ j l u e. headed' j l u e (eq? j a);
}
  where
    whole' : (j n : ℕ) → a ≤ j → j < a + k → f j ≡ taken n → (j ≡ a) ⊎ (j ≢ a) → (j ≡ a) × (n ≡ k)
    whole' j n l u e (inl p) = (p, cc)
    whole' j n l u e (inr p) = absurd (never (cc (i j (omega arith) u)))

    headed' : (j : ℕ) → a ≤ j → j < a + k → f j ≡ inside → (j ≡ a) ⊎ (j ≢ a) → (a < j) × (f a ≡ taken k)
    headed' j l u e (inl p) = absurd (never (cc))
    headed' j l u e (inr p) = (omega arith, h)

-- the k pages from a on of f have become those of f', and the others stay
pub record Becomes (f f' : ℕ → Page) (a k : ℕ) : Type 0 where
  pub solid : Solid f' a k
  pub run : (j : ℕ) → f' a ≡ taken k → a < j → j < a + k → f' j ≡ inside
  pub good : (j : ℕ) → a ≤ j → j < a + k → PageOk (f' j) × (f' j ≢ edge)
  pub same : (j : ℕ) → Out a k j → f' j ≡ f j

module _ {size : ℕ} {f f' : ℕ → Page} (ok : TableOk size f) (a k : ℕ) (fits : a + k ≤ size) (old : Solid f a k) (b : Becomes f f' a k) where
  pub replaced : TableOk size f'
  replaced = record {
    each = λ p. each' p (in? a k p);
    past = λ p h. b.same p (inr (omega arith)) ∙ ok.past p h;
    ends = λ p e. ends' p e (in? a k p);
    inner = λ p n j e l u. inner' p n j e l u (in? a k p) (in? a k j);
    owner = λ j e. owner' j e (in? a k j);
  }
    where
      each' : (p : ℕ) → ((a ≤ p) × (p < a + k)) ⊎ Out a k p → PageOk (f' p)
      each' p (inl (l, u)) = (b.good p l u).0
      each' p (inr o) = rw (b.same p o) (ok.each p)

      ends' : (p : ℕ) → f' p ≡ edge → ((a ≤ p) × (p < a + k)) ⊎ Out a k p → size ≤ p
      ends' p e (inl (l, u)) = absurd ((b.good p l u).1 e)
      ends' p e (inr o) = ok.ends p (sym (b.same p o) ∙ e)

      inner' : (p n j : ℕ) → f' p ≡ taken n → p < j → j < p + n → ((a ≤ p) × (p < a + k)) ⊎ Out a k p → ((a ≤ j) × (j < a + k)) ⊎ Out a k j → f' j ≡ inside
      inner' p n j e l u (inl (x, y)) z =
          let (pa, nk) = b.solid.whole p n x y e in
          let h : f' a ≡ taken k = cc in
          b.run j h (omega arith) (omega arith)
      inner' p n j e l u (inr o) (inr z) = b.same j z ∙ ok.inner p n j (sym (b.same p o) ∙ e) l u
      inner' p n j e l u (inr o) (inl (x, y)) =
          let q : f p ≡ taken n = sym (b.same p o) ∙ e in
          let (aj, h) = old.headed j x y (ok.inner p n j q l u) in
          side o aj h
        where
          side : Out a k p → a < j → f a ≡ taken k → f' j ≡ inside
          side (inl v) aj h = absurd (never (cc (ok.inner p n a (sym (b.same p (inl v)) ∙ e) v (omega arith))))
          side (inr v) aj h = absurd (omega arith)

      owner' : (j : ℕ) → f' j ≡ inside → ((a ≤ j) × (j < a + k)) ⊎ Out a k j → (p : ℕ) × (n : ℕ) × (f' p ≡ taken n) × (p < j) × (j < p + n)
      owner' j e (inl (x, y)) = let (aj, h) = b.solid.headed j x y e in (a, k, h, aj, y)
      owner' j e (inr o) = side (ok.owner j (sym (b.same j o) ∙ e))
        where
          go : (p n : ℕ) → f p ≡ taken n → p < j → j < p + n → ((a ≤ p) × (p < a + k)) ⊎ Out a k p → (p : ℕ) × (n : ℕ) × (f' p ≡ taken n) × (p < j) × (j < p + n)
          go p n h l u (inr z) = (p, n, b.same p z ∙ h, l, u)
          go p n h l u (inl (x, y)) = let (pa, nk) = old.whole p n x y h in absurd (out o pa nk)
            where
              out : Out a k j → p ≡ a → n ≡ k → ⊥
              out (inl v) pa nk = omega arith
              out (inr v) pa nk = omega arith

          side : (p : ℕ) × (n : ℕ) × (f p ≡ taken n) × (p < j) × (j < p + n) → (p : ℕ) × (n : ℕ) × (f' p ≡ taken n) × (p < j) × (j < p + n)
          side (p, n, h, l, u) = go p n h l u (in? a k p)
