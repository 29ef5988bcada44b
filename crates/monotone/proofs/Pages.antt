-- Of two well-formed states the first has fewer live blocks: what its pages are where the second's are free, or of a class with a clear mark.
use mathlib.Core.Path.{◌≡◌, refl, ap, ◌∙◌}
use mathlib.Core.Logic.{◌⊎◌, inl, inr}
use mathlib.Core.Bool.{Bool, true, false}
use Prim.Native.Nat.{ℕ, ◌+◌, ◌*◌, ◌≤◌, ◌<◌}
use native.Mathlib.Omega.{arith}
use Rattle.base.proofs.Cases.{clash, never, lt?, decided}
use Rattle.model.specs.Classes.{chunk, chunks, own, has_clear}
use Rattle.model.specs.State.{Page, idle, slab, taken, inside, edge, State, is_open}
use Rattle.model.specs.WellFormed.{WellFormed}
use Rattle.model.specs.Live.{Block, small, large, offset, On, Live}
use Rattle.model.proofs.Classes.{chunk_inj, lowest_clear_lem, clear_at, some-taken}
use Rattle.model.proofs.Table.{slab_ok}
use Rattle.model.proofs.Lists.{open_slab, open_is}
use Rattle.model.proofs.Blocks.{on_page}
use Rattle.monotone.specs.Monotone.{Fewer}

-- a block whose offset lies in page p begins on page p
live_on : {s : State} → WellFormed s → (e : Block) → Live s.page e → (p : ℕ) → 4096 * p ≤ offset e → offset e < 4096 * p + 4096 → On (s.page p) p e
unfolding Live
live_on {s} wf e (q, x) p l u =
    let (a, b) = on_page (s.page q) (wf.table.each q) q e x in
    let z : q ≡ p = omega arith in
    rw z at x

-- a large block is on the first page of its run, a chunk on a page of its class with its mark
large_is : (x : Page) (p n : ℕ) → On x p (large (4096 * p) n) → x ≡ taken n
unfolding On
large_is (slab c m) p n (i, z, _, _, _) = absurd (never (cc))
large_is (taken k) p n z = let y : k ≡ n = cc in ap taken y
large_is edge p n z = elim z [ ]
large_is inside p n z = elim z [ ]
large_is idle p n z = elim z [ ]

small_is : (x : Page) (p c i : ℕ) → On x p (small (4096 * p + chunk c * i) c) → (m : ℕ → Bool) × (x ≡ slab c m) × (m i ≡ true)
unfolding On
small_is (slab d m) p c i (j, z, _, _, t) =
    let y : d ≡ c = cc in
    let w : 4096 * p + chunk c * i ≡ 4096 * p + chunk d * j = cc in
    let v : chunk c * i ≡ chunk d * j = omega arith in
    (m, ap (λ (k : ℕ). slab k m) y, rw (chunk_inj c i j (rw y at v)) t)
small_is (taken k) p c i z = absurd (never (cc))
small_is edge p c i z = elim z [ ]
small_is inside p c i z = elim z [ ]
small_is idle p c i z = elim z [ ]

module _ (s t : State) (ws : WellFormed s) (wt : WellFormed t) (size : s.size ≡ t.size) (fewer : Fewer s t) where
  -- a taken run of s is one of t
  run_there : (p n : ℕ) → s.page p ≡ taken n → t.page p ≡ taken n
  unfolding Live On
  run_there p n h = large_is (t.page p) p n (live_on wt (large (4096 * p) n) (fewer (large (4096 * p) n) (p, rw h refl)) p (omega arith) (omega arith))

  inside_there : (p : ℕ) → s.page p ≡ inside → t.page p ≡ inside
  inside_there p h = let (q, n, first, l, u) = ws.table.owner p h in wt.table.inner q n p (run_there q n first) l u

  -- a taken chunk of s is one of t
  chunk_there : (p c i : ℕ) (m : ℕ → Bool) → s.page p ≡ slab c m → own c ≤ i → i < chunks c → m i ≡ true → (m' : ℕ → Bool) × (t.page p ≡ slab c m') × (m' i ≡ true)
  unfolding Live On
  chunk_there p c i m h o l e =
      let here : On (s.page p) p (small (4096 * p + chunk c * i) c) = rw h (i, refl, o, l, e) in
      let (a, b) = on_page (s.page p) (ws.table.each p) p (small (4096 * p + chunk c * i) c) here in
      small_is (t.page p) p c i (live_on wt (small (4096 * p + chunk c * i) c) (fewer (small (4096 * p + chunk c * i) c) (p, here)) p a b)

  -- so a class page of s is one of t
  class_there : (p c : ℕ) (m : ℕ → Bool) → s.page p ≡ slab c m → (m' : ℕ → Bool) × (t.page p ≡ slab c m')
  class_there p c m h =
      let (i, o, l, e) = some-taken c m (slab_ok ws.table h).in_use in
      let (m', h', e') = chunk_there p c i m h o l e in
      (m', h')

  end_there : (p : ℕ) → s.page p ≡ edge → t.page p ≡ edge
  end_there p h = wt.table.past p (omega (arith, ws.table.ends p h))

  -- a page that is free in t is free in s
  pub free_still : (p : ℕ) → t.page p ≡ idle → s.page p ≡ idle
  free_still p h = go (s.page p) refl
    where
      go : (x : Page) → s.page p ≡ x → s.page p ≡ idle
      go idle e = e
      go (slab c m) e = let (m', h') = class_there p c m e in absurd (never (cc))
      go (taken n) e = let h' = run_there p n e in absurd (never (cc))
      go inside e = let h' = inside_there p e in absurd (never (cc))
      go edge e = let h' = end_there p e in absurd (never (cc))

  -- a page of class c with a clear mark in t is one in s, or is free there
  pub open_still : (p c : ℕ) → is_open c (t.page p) ≡ true → (is_open c (s.page p) ≡ true) ⊎ (s.page p ≡ idle)
  open_still p c o = go (s.page p) refl (open_is c (t.page p) o)
    where
      Here : Type 0
      Here = (is_open c (s.page p) ≡ true) ⊎ (s.page p ≡ idle)

      go : (x : Page) → s.page p ≡ x → (m : ℕ → Bool) × (t.page p ≡ slab c m) × (has_clear c m ≡ true) → Here
      go idle e was = inr e
      go (slab d k) e (m, h, clear) =
          let (m', h') = class_there p d k e in
          let z : d ≡ c = cc in
          let e' : s.page p ≡ slab c k = rw z at e in
          let (l, f) = lowest_clear_lem c m clear in
          inl (rw (e', open_slab c k) (clear_at c k _ l (still m k h e' _ l f)))
        where
          -- the clear mark i of t is clear in s
          still : (m k : ℕ → Bool) → t.page p ≡ slab c m → s.page p ≡ slab c k → (i : ℕ) → i < chunks c → m i ≡ false → k i ≡ false
          still m k h e i l f = decided (k i) (λ z. side z (lt? i (own c)))
            where
              side : k i ≡ true → (i < own c) ⊎ (own c ≤ i) → ⊥
              side z (inl o) = clash ((slab_ok wt.table h).own-set i o) f
              side z (inr o) =
                  let (m', h', g) = chunk_there p c i k e o l z in
                  let y : m i ≡ m' i = cc in
                  clash (y ∙ g) f
      go (taken n) e (m, h, clear) = let h' = run_there p n e in absurd (never (cc))
      go inside e (m, h, clear) = let h' = inside_there p e in absurd (never (cc))
      go edge e (m, h, clear) = let h' = end_there p e in absurd (never (cc))
