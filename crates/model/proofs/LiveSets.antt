-- The live set of a state: its blocks listed, and the list that calls and answers feed.
use mathlib.Core.Path.{◌≡◌, refl, ap, subst}
use mathlib.Core.Logic.{◌⊎◌, inl, inr, ◌≢◌}
use mathlib.Core.Bool.{Bool, true, false, cond, ◌&&◌}
use mathlib.Core.List.{List, [], ◌∷◌, ◌++◌}
use Prim.Native.Nat.{ℕ, zero, suc, ◌+◌, ◌*◌, ◌≤◌, ◌<◌}
use native.Mathlib.Nat.{mul-le-mul_left}
use native.Mathlib.Omega.{arith}
use lib.Dec.{eqb, leb}
use borrow.Author.Tests.{leb-true, eqb-false, not-true, le-leb, ne_eqb}
use Rattle.base.specs.Lists.{Mem, NoDup, keep}
use Rattle.base.proofs.Cases.{eq?, and_true}
use Rattle.base.proofs.Lists.{keep-mem, mem-keep, keep-once, mem_append, append_left, append_right}
use Rattle.model.specs.Classes.{chunk, chunks, own, need_of}
use Rattle.model.specs.State.{Page, idle, slab, taken, inside, edge, State}
use Rattle.model.specs.WellFormed.{TableOk, WellFormed}
use Rattle.model.specs.Calls.{Call, Alloc, Free, Answer, at, freed, no}
use Rattle.model.specs.Live.{Block, small, offset, On, Live, chunks_on, blocks_on, blocks_below, blocks, Rising, block_for, elsewhere, noted, LiveSet}
use Rattle.model.specs.Claim.{NoOverlap}
use Rattle.model.specs.Effects.{Adds, Strikes, AllocEffect, FreeEffect, Effect}
use Rattle.model.proofs.Classes.{chunk-pos}
use Rattle.model.proofs.Table.{in_table}
use Rattle.model.proofs.Blocks.{on_page, live-apart}

-- ---- lists in order of offset

rising-from : (a b : ℕ) (B : List Block) → b ≤ a → Rising a B → Rising b B
rising-from a b [] l r = tt
rising-from a b (e ∷ B) l r = (omega (arith, r.0), r.1)

rising-low : (a : ℕ) (B : List Block) → Rising a B → (e : Block) → Mem e B → a ≤ offset e
rising-low a (d ∷ B) r e (inl q) = rw q r.0
rising-low a (d ∷ B) r e (inr m) = omega (arith, r.0, rising-low (offset d + 1) B r.1 e m)
rising-low a [] r e x'' = elim x'' [ ]

rising-once : (a : ℕ) (B : List Block) → Rising a B → NoDup B
rising-once a [] r = tt
rising-once a (e ∷ B) r = (λ m. omega (arith, rising-low (offset e + 1) B r.1 e m), rising-once (offset e + 1) B r.1)

rising_append : (a b : ℕ) (xs ys : List Block) → a ≤ b → Rising a xs → ((e : Block) → Mem e xs → offset e < b) → Rising b ys → Rising a (xs ++ ys)
rising_append a b [] ys l r h q = rising-from b a ys l q
rising_append a b (e ∷ xs) ys l r h q = (r.0, rising_append (offset e + 1) b xs ys (omega (arith, h e (inl refl))) r.1 (λ d m. h d (inr m)) q)

-- ---- the blocks of a state

module _ (c p : ℕ) (m : ℕ → Bool) where
  -- a marked chunk below n
  abbrev At : ℕ → Block → Type 0
  At n e = (i : ℕ) × (e ≡ small (4096 * p + chunk c * i) c) × (own c ≤ i) × (i < n) × (m i ≡ true)

  abbrev last : ℕ → List Block
  last i = cond (leb (own c) i && m i) (small (4096 * p + chunk c * i) c ∷ []) []

  last_at : (i : ℕ) (e : Block) → Mem e (last i) → At (suc i) e
  last_at i e = go (leb (own c) i && m i) refl
    where
      go : (t : Bool) → leb (own c) i && m i ≡ t → Mem e (cond t (small (4096 * p + chunk c * i) c ∷ []) []) → At (suc i) e
      go true d (inl q) = let (a, b) = and_true (leb (own c) i) (m i) d in (i, q, leb-true (own c) i a, omega arith, b)
      go true d (inr x4) = elim x4 [ ]
      go false d x'' = elim x'' [ ]

  chunks-at : (n : ℕ) (e : Block) → Mem e (chunks_on c p m n) → At n e
  unfolding chunks_on
  chunks-at zero e x = absurd x
  chunks-at (suc n) e x = go (mem_append e (chunks_on c p m n) (last n) x) (chunks-at n e)
    where
      go : Mem e (chunks_on c p m n) ⊎ Mem e (last n) → (Mem e (chunks_on c p m n) → At n e) → At (suc n) e
      go (inl y) ih = let (i, q, o, l, t) = ih y in (i, q, o, omega arith, t)
      go (inr y) ih = last_at n e y

  at-chunks : (n : ℕ) (e : Block) (i : ℕ) → e ≡ small (4096 * p + chunk c * i) c → own c ≤ i → i < n → m i ≡ true → Mem e (chunks_on c p m n)
  unfolding chunks_on
  at-chunks zero e i q o l t = absurd (omega arith)
  at-chunks (suc n) e i q o l t = go (eq? i n) (λ u. at-chunks n e i q o u t)
    where
      go : (i ≡ n) ⊎ (i ≢ n) → (i < n → Mem e (chunks_on c p m n)) → Mem e (chunks_on c p m n ++ last n)
      go (inl z) ih = append_right e (chunks_on c p m n) (last n) (rw (← z, le-leb (own c) i o, t) (inl q))
      go (inr z) ih = append_left e (chunks_on c p m n) (last n) (ih (omega arith))

  chunks_rise : (n : ℕ) → Rising (4096 * p) (chunks_on c p m n)
  unfolding chunks_on
  chunks_rise zero = tt
  chunks_rise (suc n) =
      rising_append (4096 * p) (4096 * p + chunk c * n) (chunks_on c p m n) (last n) (omega arith) (chunks_rise n) (λ e x. below e (chunks-at n e x)) (one (leb (own c) n && m n))
    where
      below : (e : Block) → At n e → offset e < 4096 * p + chunk c * n
      below e (i, q, o, l, t) = omega (arith, ap offset q, mul-le-mul_left (chunk c) l, chunk-pos c)

      one : (t : Bool) → Rising (4096 * p + chunk c * n) (cond t (small (4096 * p + chunk c * n) c ∷ []) [])
      one true = (omega arith, tt)
      one false = tt

blocks_on_lem : (x : Page) (p : ℕ) (e : Block) → Mem e (blocks_on x p) → On x p e
unfolding On
blocks_on_lem (slab c m) p e x = chunks-at c p m (chunks c) e x
blocks_on_lem (taken n) p e (inl q) = q
blocks_on_lem edge p e x = elim x [ ]
blocks_on_lem inside p e x = elim x [ ]
blocks_on_lem (taken n) p e (inr x4) = elim x4 [ ]
blocks_on_lem idle p e x = elim x [ ]

on_blocks : (x : Page) (p : ℕ) (e : Block) → On x p e → Mem e (blocks_on x p)
unfolding On
on_blocks (slab c m) p e (i, q, o, l, t) = at-chunks c p m (chunks c) e i q o l t
on_blocks (taken n) p e o = inl o
on_blocks edge p e o = elim o [ ]
on_blocks inside p e o = elim o [ ]
on_blocks idle p e o = elim o [ ]

on_rise : (x : Page) (p : ℕ) → Rising (4096 * p) (blocks_on x p)
on_rise idle p = tt
on_rise (slab c m) p = chunks_rise c p m (chunks c)
on_rise (taken n) p = (omega arith, tt)
on_rise inside p = tt
on_rise edge p = tt

module _ {size : ℕ} {f : ℕ → Page} (ok : TableOk size f) where
  below-live : (n : ℕ) (e : Block) → Mem e (blocks_below f n) → (p : ℕ) × (p < n) × On (f p) p e
  unfolding blocks_below
  below-live zero e m = absurd m
  below-live (suc n) e m = go (mem_append e (blocks_below f n) (blocks_on (f n) n) m) (below-live n e)
    where
      go : Mem e (blocks_below f n) ⊎ Mem e (blocks_on (f n) n) → (Mem e (blocks_below f n) → (p : ℕ) × (p < n) × On (f p) p e) → (p : ℕ) × (p < suc n) × On (f p) p e
      go (inl x) ih = let (p, l, o) = ih x in (p, omega arith, o)
      go (inr x) ih = (n, omega arith, blocks_on_lem (f n) n e x)

  live_below : (n p : ℕ) (e : Block) → p < n → On (f p) p e → Mem e (blocks_below f n)
  unfolding blocks_below
  live_below zero p e l o = absurd (omega arith)
  live_below (suc n) p e l o = go (eq? p n) (live_below n p e)
    where
      go : (p ≡ n) ⊎ (p ≢ n) → (p < n → On (f p) p e → Mem e (blocks_below f n)) → Mem e (blocks_below f n ++ blocks_on (f n) n)
      go (inl z) ih = append_right e (blocks_below f n) (blocks_on (f n) n) (on_blocks (f n) n e (subst (λ (q : ℕ). On (f q) q e) z o))
      go (inr z) ih = append_left e (blocks_below f n) (blocks_on (f n) n) (ih (omega arith) o)

  below_rise : (n : ℕ) → Rising 0 (blocks_below f n)
  unfolding blocks_below
  below_rise zero = tt
  below_rise (suc n) = rising_append 0 (4096 * n) (blocks_below f n) (blocks_on (f n) n) (omega arith) (below_rise n) low (on_rise (f n) n)
    where
      low : (e : Block) → Mem e (blocks_below f n) → offset e < 4096 * n
      low e m = let (p, l, o) = below-live n e m in let (a, b) = on_page (f p) (ok.each p) p e o in omega arith

module _ (s : State) (wf : WellFormed s) where
  pub blocks_rise : Rising 0 (blocks s)
  unfolding blocks
  blocks_rise = below_rise wf.table s.size

  pub blocks-set : LiveSet (blocks s) s.page
  unfolding blocks Live
  blocks-set = record {
    once = rising-once 0 (blocks s) blocks_rise;
    live = λ e m. let (p, l, o) = below-live wf.table s.size e m in (p, o);
    all = λ e (p, o). live_below wf.table s.size p e (in_table wf.table p (λ h. unfold On in (rw h at o))) o;
  }

-- ---- calls and answers

noted_add : {B : List Block} {f f' : ℕ → Page} {b : Block} → LiveSet B f → Adds f f' b → LiveSet (b ∷ B) f'
noted_add {B} {f} {f'} {b} set add = record {
  once = (λ m. add.new (set.live b m), set.once);
  live = live';
  all = λ e x. all' e (add.only e x);
}
  where
    live' : (e : Block) → Mem e (b ∷ B) → Live f' e
    live' e (inl q) = rw q add.made
    live' e (inr m) = add.kept e (set.live e m)

    all' : (e : Block) → (e ≡ b) ⊎ Live f e → Mem e (b ∷ B)
    all' e (inl q) = inl q
    all' e (inr x) = inr (set.all e x)

noted_strike : {B : List Block} {f f' : ℕ → Page} {off n : ℕ} → LiveSet B f → Strikes f f' off n → LiveSet (keep (elsewhere off) B) f'
unfolding elsewhere
noted_strike {B} {f} {f'} {off} {n} set strike = record {
  once = keep-once (elsewhere off) B set.once;
  live = λ e m. let (x, t) = keep-mem (elsewhere off) e B m in strike.kept e (set.live e x) (eqb-false (offset e) off (not-true (eqb (offset e) off) t));
  all = λ e x. let (y, d) = strike.gone e x in mem-keep (elsewhere off) e B (set.all e y) (rw (ne_eqb (offset e) off d));
}

pub noted-set : (B : List Block) (f f' : ℕ → Page) (call : Call) (a : Answer) → LiveSet B f → Effect call f a f' → LiveSet (noted B call a) f'
unfolding noted Effect AllocEffect FreeEffect
noted-set B f f' (Alloc n) (at off) set x = noted_add set x
noted-set B f f' (Alloc n) (no k) set x = rw x set
noted-set B f f' (Free off) (freed k) set x = noted_strike set x
noted-set B f f' (Free off) (no k) set x = rw x set
noted-set B f f' (Free off) (at _) set x = elim x [ ]
noted-set B f f' (Alloc n) (freed k) set x = elim x [ ]

pub noted-apart : {size : ℕ} (B : List Block) (f f' : ℕ → Page) (call : Call) (a : Answer) → TableOk size f' → LiveSet B f → Effect call f a f' → NoOverlap B call a
unfolding NoOverlap Effect AllocEffect FreeEffect
noted-apart B f f' (Alloc n) (at off) ok set x =
    λ e m. live-apart ok (block_for (need_of n) off) e x.made (x.kept e (set.live e m)) (λ z. x.new (rw z (set.live e m)))
noted-apart B f f' (Alloc n) (no k) ok set x = tt
noted-apart B f f' (Free off) (freed k) ok set x = tt
noted-apart B f f' (Free off) (no k) ok set x = tt
noted-apart {size = size} B f f' (Free off) (at _) ok set x = elim x [ ]
noted-apart {size = size} B f f' (Alloc n) (freed k) ok set x = elim x [ ]
