-- Where the live blocks of a well-formed state lie, and that a call leaves alone the blocks that stay live.
use mathlib.Core.Path.{◌≡◌, refl, sym, ap, ◌∙◌}
use mathlib.Core.Logic.{◌⊎◌, inl, inr, ◌≢◌}
use mathlib.Core.Bool.{Bool}
use Prim.Native.Nat.{ℕ, ◌+◌, ◌-◌, ◌*◌, ◌≤◌, ◌<◌}
use native.Mathlib.Nat.{mul-le-mul_left}
use native.Mathlib.Omega.{arith}
use Rattle.base.proofs.Cases.{never, eq?}
use Rattle.model.specs.Classes.{chunk, own}
use Rattle.model.specs.State.{Page, idle, slab, taken, inside, State, edge}
use Rattle.model.specs.WellFormed.{ClassOk, TableOk, WellFormed}
use Rattle.model.specs.Calls.{step}
use Rattle.model.specs.Live.{Block, offset, extent, Off, On, Live}
use Rattle.model.specs.Effects.{Effect, Stays}
use Rattle.model.specs.Claim.{Kept, Placing, NewBitmaps, CallersBytes}
use Rattle.model.proofs.Classes.{chunk_inj, own-few, chunk-ends}
use Rattle.model.proofs.Table.{in_table, slab_ok}
use Rattle.model.proofs.Blocks.{on_page, Spans, spans, off-page, live-apart}
use Rattle.model.proofs.Steps.{step_kept}
use Rattle.model.proofs.LiveSets.{blocks_rise, blocks-set}

-- a block on a class page lies past the bitmap's own chunks
on_past-own : (p c : ℕ) (m : ℕ → Bool) (e : Block) → On (slab c m) p e → 4096 * p + chunk c * own c ≤ offset e
unfolding On
on_past-own p c m e (i, q, o, l, t) = omega (arith, ap offset q, mul-le-mul_left (chunk c) o)

module _ {s : State} (wf : WellFormed s) where
  live-off-maps : (e : Block) → Live s.page e → (p c : ℕ) (m : ℕ → Bool) → s.page p ≡ slab c m → Off e (4096 * p) (chunk c * own c)
  unfolding Live
  live-off-maps e (q, x) p c m h = go (eq? p q)
    where
      ok : ClassOk c m
      ok = slab_ok wf.table h

      few : chunk c * own c ≤ 4096
      few = omega (arith, own-few c ok.in_range, chunk-ends c ok.in_range (own c) (omega (arith, own-few c ok.in_range)))

      go : (p ≡ q) ⊎ (p ≢ q) → Off e (4096 * p) (chunk c * own c)
      go (inl z) = inr (on_past-own p c m e (rw (← z, h) at x))
      go (inr z) = let (n, S) = spans wf.table q e x in side (off-page e q n p S (λ w. never (cc)) z)
        where
          side : Off e (4096 * p) 4096 → Off e (4096 * p) (chunk c * own c)
          side (inl w) = inl w
          side (inr w) = inr (omega (arith, few))

  live-off-free : (e : Block) → Live s.page e → (p : ℕ) → s.page p ≡ idle → Off e (4096 * p) 4096
  unfolding Live On
  live-off-free e (q, x) p h =
      let (n, S) = spans wf.table q e x in
      off-page e q n p S (λ w. never (cc)) (λ z. rw (← z, h) at x)

  live-within : (e : Block) → Live s.page e → offset e + extent e ≤ 4096 * s.size
  unfolding Live On
  live-within e (q, x) =
      let (n, S) = spans wf.table q e x in
      omega (arith, S.high, S.some-page, there n S (S.covered (q + n - 1) (omega (arith, S.some-page)) (omega (arith, S.some-page))))
    where
      there : (n : ℕ) → Spans s.page e q n → (q + n - 1 ≡ q) ⊎ (s.page (q + n - 1) ≡ inside) → q + n - 1 < s.size
      there n S (inl z) = rw z (in_table wf.table q (λ w. rw w at x))
      there n S (inr z) = in_table wf.table (q + n - 1) (λ w. never (cc))

pub placing : Placing
placing s wf = record {
  apart = live-apart wf.table;
  off-maps = live-off-maps wf;
  off-free = live-off-free wf;
  within-pages = live-within wf;
  listed = blocks-set s wf;
  rising = blocks_rise s wf;
}

pub new_bitmaps : NewBitmaps
new_bitmaps s wf call p c m' h = go ((step_kept s wf call).slabs p c m' h)
  where
    go : ((m : ℕ → Bool) × (s.page p ≡ slab c m)) ⊎ (s.page p ≡ idle) →
        ((m : ℕ → Bool) × (s.page p ≡ slab c m)) ⊎ ((e : Block) → Live s.page e → Off e (4096 * p) 4096)
    go (inl x) = inl x
    go (inr z) = inr (λ e x. live-off-free wf e x p z)

-- ---- blocks that stay live

module _ {size size' : ℕ} {f f' : ℕ → Page} (ok : TableOk size f) (ok' : TableOk size' f') where
  both_stay : (e : Block) (p : ℕ) (x y : Page) → f p ≡ x → f' p ≡ y → On x p e → On y p e → Stays f f' e
  unfolding On Stays
  both_stay e p (slab c m) (slab d k) h h' (i, q, o, l, t) (j, r, u, v, w) =
      let z : d ≡ c = cc in
      let a : 4096 * p + chunk c * j ≡ 4096 * p + chunk c * i = rw z at (sym (ap offset r) ∙ ap offset q) in
      let b : j ≡ i = chunk_inj c j i (omega arith) in
      rw q (p, i, m, k, refl, h, t, rw z at h', rw b at w)
  both_stay e p (taken n) (taken k) h h' q r =
      let z : k ≡ n = cc in
      rw q (p, refl, h, λ j l u. same j z u (eq? j p) l)
    where
      same : (j : ℕ) → k ≡ n → j < p + n → (j ≡ p) ⊎ (j ≢ p) → p ≤ j → f' j ≡ f j
      same j z u (inl a) l = ap f' a ∙ h' ∙ ap taken z ∙ sym h ∙ ap f (sym a)
      same j z u (inr a) l = ok'.inner p k j h' (omega arith) (omega arith) ∙ sym (ok.inner p n j h (omega arith) u)
  both_stay e p (slab c m) (taken k) h h' (i, q, o, l, t) r = absurd (never (cc))
  both_stay e p (taken n) (slab d k) h h' q (j, r, u, v, w) = absurd (never (cc))
  both_stay e p edge y h h' q r = elim q [ ]
  both_stay e p inside y h h' q r = elim q [ ]
  both_stay e p (taken n) edge h h' q r = elim r [ ]
  both_stay e p (taken n) inside h h' q r = elim r [ ]
  both_stay e p (taken n) idle h h' q r = elim r [ ]
  both_stay e p (slab c m) edge h h' q r = elim r [ ]
  both_stay e p (slab c m) inside h h' q r = elim r [ ]
  both_stay e p (slab c m) idle h h' q r = elim r [ ]
  both_stay e p idle y h h' q r = elim q [ ]

  live-stays : (e : Block) → Live f e → Live f' e → Stays f f' e
  unfolding Live
  live-stays e (p, x) (q, y) =
      let (a, b) = on_page (f p) (ok.each p) p e x in
      let (c, d) = on_page (f' q) (ok'.each q) q e y in
      let z : q ≡ p = omega arith in
      both_stay e p (f p) (f' p) refl refl x (rw z at y)

pub callers_bytes : CallersBytes
callers_bytes s wf call e x y =
    let K : Kept s (Effect call) (step s call) = step_kept s wf call in
    record {
      stays = live-stays wf.table K.well.table e x y;
      off_old = live-off-maps wf e x;
      off-new = live-off-maps K.well e y;
    }
