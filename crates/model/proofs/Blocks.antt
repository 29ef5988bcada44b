-- Live blocks: the page a block begins in, blocks that share no byte, and the live blocks after a change at one page.
use mathlib.Core.Path.{◌≡◌, refl, sym, ap, ◌∙◌}
use mathlib.Core.Logic.{◌⊎◌, inl, inr, ◌≢◌}
use Prim.Native.Nat.{ℕ, ◌+◌, ◌*◌, ◌≤◌, ◌<◌}
use native.Mathlib.Nat.{mul-le-mul_left}
use native.Mathlib.Omega.{arith}
use Rattle.base.proofs.Cases.{never, eq?, lt?}
use Rattle.model.specs.Classes.{chunk}
use Rattle.model.specs.State.{Page, slab, taken, inside, edge, idle}
use Rattle.model.specs.WellFormed.{PageOk, TableOk}
use Rattle.model.specs.Calls.{fresh}
use Rattle.model.specs.Live.{Block, small, offset, extent, Disjoint, Off, On, Live}
use Rattle.model.specs.Effects.{Adds, Strikes}
use Rattle.model.proofs.Classes.{chunk-pos, chunk-ends}

-- ---- the page of a block

-- a block that begins on a page has its offset there
pub on_page : (x : Page) → PageOk x → (p : ℕ) (e : Block) → On x p e → (4096 * p ≤ offset e) × (offset e < 4096 * p + 4096)
unfolding On
on_page (slab c m) h p e (i, q, o, l, t) =
    let z : offset e ≡ 4096 * p + chunk c * i = ap offset q in
    (omega arith, omega (arith, chunk-pos c, chunk-ends c h.in_range i l))
on_page (taken n) h p e q = let z : offset e ≡ 4096 * p = ap offset q in (omega arith, omega arith)
on_page edge h p e q = elim q [ ]
on_page inside h p e q = elim q [ ]
on_page idle h p e q = elim q [ ]

-- blocks on one page with one offset are one block
pub on_same : (x : Page) (p : ℕ) (d e : Block) → On x p d → On x p e → offset d ≡ offset e → d ≡ e
unfolding On
on_same (slab c m) p d e (i, q, _, _, _) (j, r, _, _, _) h = q ∙ ap (λ (z : ℕ). small z c) (sym (ap offset q) ∙ h ∙ ap offset r) ∙ sym r
on_same (taken n) p d e q r h = q ∙ sym r
on_same edge p d e q r h = elim q [ ]
on_same inside p d e q r h = elim q [ ]
on_same idle p d e q r h = elim q [ ]

module _ {size : ℕ} {f : ℕ → Page} (ok : TableOk size f) where
  pub live_same : (d e : Block) → Live f d → Live f e → offset d ≡ offset e → d ≡ e
  unfolding Live
  live_same d e (p, x) (q, y) h =
      let (a, b) = on_page (f p) (ok.each p) p d x in
      let (u, v) = on_page (f q) (ok.each q) q e y in
      let z : q ≡ p = omega arith in
      on_same (f p) p d e x (rw z at y) h

-- ---- blocks that share no byte

-- the block lies in the n pages from q on; those are q and pages inside its run
pub record Spans (f : ℕ → Page) (e : Block) (q n : ℕ) : Type 0 where
  pub some-page : 1 ≤ n
  pub low : 4096 * q ≤ offset e
  pub high : offset e + extent e ≤ 4096 * (q + n)
  pub covered : (j : ℕ) → q ≤ j → j < q + n → (j ≡ q) ⊎ (f j ≡ inside)

pub spans : {size : ℕ} {f : ℕ → Page} → TableOk size f → (q : ℕ) (e : Block) → On (f q) q e → (n : ℕ) × Spans f e q n
unfolding On extent
spans {size} {f} ok q e x = go (f q) refl (ok.each q) x
  where
    near : (j n : ℕ) → f q ≡ taken n → q ≤ j → j < q + n → (j ≡ q) ⊎ (j ≢ q) → (j ≡ q) ⊎ (f j ≡ inside)
    near j n h l u (inl p) = inl p
    near j n h l u (inr p) = inr (ok.inner q n j h (omega arith) u)

    go : (x : Page) → f q ≡ x → PageOk x → On x q e → (n : ℕ) × Spans f e q n
    go (slab c m) h w (i, p, _, l, _) = (
      1,
      record {
        some-page = omega arith;
        low = let z : offset e ≡ 4096 * q + chunk c * i = ap offset p in omega arith;
        high =
            let z : offset e ≡ 4096 * q + chunk c * i = ap offset p in
            let y : extent e ≡ chunk c = ap extent p in
            omega (arith, chunk-ends c w.in_range i l);
        covered = λ j a b. inl (omega arith);
      },
    )
    go (taken n) h w p = (
      n,
      record {
        some-page = w;
        low = let z : offset e ≡ 4096 * q = ap offset p in omega arith;
        high =
            let z : offset e ≡ 4096 * q = ap offset p in
            let y : extent e ≡ 4096 * n = ap extent p in
            omega arith;
        covered = λ j a b. near j n h a b (eq? j q);
      },
    )
    go edge h w p = elim p [ ]
    go inside h w p = elim p [ ]
    go idle h w p = elim p [ ]

-- two chunks of one page
pub chunks_apart : (c p i j : ℕ) → i ≢ j → Disjoint (small (4096 * p + chunk c * i) c) (small (4096 * p + chunk c * j) c)
unfolding extent
chunks_apart c p i j h = go (lt? i j)
  where
    go : (i < j) ⊎ (j ≤ i) → Disjoint (small (4096 * p + chunk c * i) c) (small (4096 * p + chunk c * j) c)
    go (inl l) = inl (omega (arith, mul-le-mul_left (chunk c) l))
    go (inr l) = let z : j < i = omega arith in inr (omega (arith, mul-le-mul_left (chunk c) z))

-- a page that is neither the block's first nor inside a run
pub off-page : {f : ℕ → Page} (e : Block) (q n p : ℕ) → Spans f e q n → f p ≢ inside → p ≢ q → Off e (4096 * p) 4096
off-page {f} e q n p S h d = go (lt? p q) (lt? p (q + n))
  where
    go : (p < q) ⊎ (q ≤ p) → (p < q + n) ⊎ (q + n ≤ p) → Off e (4096 * p) 4096
    go (inl l) u = inr (omega (arith, S.low))
    go (inr l) (inr u) = inl (omega (arith, S.high))
    go (inr l) (inl u) = absurd (side (S.covered p l u))
      where
        side : (p ≡ q) ⊎ (f p ≡ inside) → ⊥
        side (inl z) = d z
        side (inr z) = h z

-- the page on which a block begins is not inside a run
on_start : (x : Page) (p : ℕ) (e : Block) → On x p e → x ≢ inside
unfolding On
on_start (slab c m) p e o z = never (cc)
on_start (taken n) p e o z = never (cc)
on_start inside p e o z = o
on_start edge p e o z = elim o [ ]
on_start idle p e o z = elim o [ ]

-- two blocks on one page
on_apart : (x : Page) (p : ℕ) (d e : Block) → On x p d → On x p e → d ≢ e → Disjoint d e
unfolding On
on_apart (slab c m) p d e (i, q, o, l, t) (j, r, u, v, w) n =
    rw (q, r) (chunks_apart c p i j (λ z. n (q ∙ ap (λ (k : ℕ). small (4096 * p + chunk c * k) c) z ∙ sym r)))
on_apart (taken k) p d e q r n = absurd (n (q ∙ sym r))
on_apart edge p d e q r n = elim q [ ]
on_apart inside p d e q r n = elim q [ ]
on_apart idle p d e q r n = elim q [ ]

-- two live blocks
module _ {size : ℕ} {f : ℕ → Page} (ok : TableOk size f) where
  pub live-apart : (d e : Block) → Live f d → Live f e → d ≢ e → Disjoint d e
  unfolding Live
  live-apart d e (p, x) (q, y) n = go (eq? q p) (lt? p q)
    where
      -- a block that begins on a later page begins after the other's last page
      later : (a b : ℕ) (d e : Block) → On (f a) a d → On (f b) b e → a < b → offset d + extent d ≤ offset e
      later a b d e u v l =
          let (n, S) = spans ok a d u in
          let (m, T) = spans ok b e v in
          side (off-page d a n b S (on_start (f b) b e v) (omega arith)) T.low
        where
          side : Off d (4096 * b) 4096 → 4096 * b ≤ offset e → offset d + extent d ≤ offset e
          side (inl z) t = omega arith
          side (inr z) t = absurd (omega (arith, (on_page (f a) (ok.each a) a d u).1))

      go : (q ≡ p) ⊎ (q ≢ p) → (p < q) ⊎ (q ≤ p) → Disjoint d e
      go (inl z) l = on_apart (f p) p d e x (rw z at y) n
      go (inr z) (inl l) = inl (later p q d e x y l)
      go (inr z) (inr l) = inr (later q p e d y x (omega arith))

-- ---- the live blocks after a change at page a

module _ {size : ℕ} {f f' : ℕ → Page} (ok : TableOk size f) (ok' : TableOk size f') (a : ℕ)
    (quiet : (j : ℕ) → j ≢ a → (e : Block) → (On (f j) j e → On (f' j) j e) × (On (f' j) j e → On (f j) j e)) where
  -- the block b is new
  pub adds : (b : Block) → ¬ On (f a) a b → On (f' a) a b → ((e : Block) → On (f' a) a e → (e ≡ b) ⊎ On (f a) a e) → ((e : Block) → On (f a) a e → On (f' a) a e) → Adds f f' b
  unfolding Live
  adds b fresh made only kept = record {
    new = λ (p, x). new p x (eq? p a);
    made = (a, made);
    only = λ e (p, x). only' e p x (eq? p a);
    kept = λ e (p, x). kept' e p x (eq? p a);
  }
    where
      new : (p : ℕ) → On (f p) p b → (p ≡ a) ⊎ (p ≢ a) → ⊥
      new p x (inl q) = fresh (rw q at x)
      new p x (inr q) =
          let (l, h) = on_page (f p) (ok.each p) p b x in
          let (u, v) = on_page (f' a) (ok'.each a) a b made in
          q (omega arith)

      only' : (e : Block) (p : ℕ) → On (f' p) p e → (p ≡ a) ⊎ (p ≢ a) → (e ≡ b) ⊎ Live f e
      only' e p x (inr q) = inr (p, (quiet p q e).1 x)
      only' e p x (inl q) = side (only e (rw q at x))
        where
          side : (e ≡ b) ⊎ On (f a) a e → (e ≡ b) ⊎ Live f e
          side (inl r) = inl r
          side (inr r) = inr (a, r)

      kept' : (e : Block) (p : ℕ) → On (f p) p e → (p ≡ a) ⊎ (p ≢ a) → Live f' e
      kept' e p x (inl q) = (a, kept e (rw q at x))
      kept' e p x (inr q) = (p, (quiet p q e).0 x)

  -- the block b, which begins in page a, is struck out
  pub strikes : (b : Block) → On (f a) a b → ((e : Block) → On (f' a) a e → On (f a) a e × (offset e ≢ offset b)) →
      ((e : Block) → On (f a) a e → offset e ≢ offset b → On (f' a) a e) → Strikes f f' (offset b) (extent b)
  unfolding Live
  strikes b here gone kept = record {
    was = (b, (a, here), refl, refl);
    gone = λ e (p, x). gone' e p x (eq? p a);
    kept = λ e (p, x) d. kept' e p x d (eq? p a);
  }
    where
      gone' : (e : Block) (p : ℕ) → On (f' p) p e → (p ≡ a) ⊎ (p ≢ a) → Live f e × (offset e ≢ offset b)
      gone' e p x (inl q) = let (o, n) = gone e (rw q at x) in ((a, o), n)
      gone' e p x (inr q) =
          let (l, h) = on_page (f a) (ok.each a) a b here in
          let (u, v) = on_page (f' p) (ok'.each p) p e x in
          ((p, (quiet p q e).1 x), λ z. q (omega arith))

      kept' : (e : Block) (p : ℕ) → On (f p) p e → offset e ≢ offset b → (p ≡ a) ⊎ (p ≢ a) → Live f' e
      kept' e p x d (inl q) = (a, kept e (rw q at x) d)
      kept' e p x d (inr q) = (p, (quiet p q e).0 x)
