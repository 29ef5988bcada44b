-- What a state shows, and how it rules a call, depends on its live blocks only; freeing blocks in any order.
use mathlib.Core.Path.{◌≡◌, refl, sym, ap, ◌∙◌, subst, fun_ext}
use mathlib.Core.Logic.{◌⊎◌, inl, inr, ◌≢◌, ◌↔◌}
use mathlib.Core.List.{List}
use Prim.Native.Nat.{ℕ, ◌-◌, ◌*◌, ◌/◌, ◌%◌}
use native.Mathlib.Omega.{arith}
use Rattle.model.specs.Classes.{chunk, Need, nothing, chunk_of, pages, need_of}
use Rattle.model.specs.State.{Page, slab, taken, State, edge, inside, idle}
use Rattle.model.specs.WellFormed.{WellFormed}
use Rattle.model.specs.Calls.{Alloc, Free, freed, fresh, free_at, free, step}
use Rattle.model.specs.Live.{Block, offset, extent, On, Live, blocks, block_for, LiveSet}
use Rattle.model.specs.Effects.{Adds, Strikes, AllocEffect, FreeEffect, Effect, without}
use Rattle.model.specs.View.{View, shown}
use Rattle.model.specs.Expected.{expected}
use Rattle.model.specs.Ruling.{ruling}
use Rattle.model.specs.Claim.{Kept, SameBlocks, SetOnly, AllFreed, LiveFreed, AllocFreed, FreedEitherWay}
use Rattle.model.proofs.Classes.{starts_chunk_lem}
use Rattle.model.proofs.Blocks.{on_page, live_same}
use Rattle.model.proofs.Steps.{step_kept}
use Rattle.model.proofs.Fresh.{fresh_empty, fresh-well}
use Rattle.model.proofs.LiveSets.{blocks-set}
use Rattle.model.proofs.Shown.{page-shown, run-shown, mark-shown}
use Rattle.model.proofs.Counts.{used-shown, total-shown}
use Rattle.model.proofs.Ruling.{calls_ruled}

pub shown-expected : {B : List Block} (s : State) → WellFormed s → LiveSet B s.page → shown s ≡ expected s.size B
unfolding shown expected
shown-expected {B} s wf set =
    λ i. record {
      size = s.size;
      free_run = fun_ext (run-shown s wf set) i;
      page = fun_ext (page-shown s wf set) i;
      mark = fun_ext (λ p. fun_ext (mark-shown s wf set p)) i;
      used = fun_ext (used-shown s wf set) i;
      total = fun_ext (total-shown s wf set) i;
    }

-- a live set of one state is that of another with the same live blocks
set_moves : {B : List Block} {f g : ℕ → Page} → LiveSet B f → ((e : Block) → Live f e ↔ Live g e) → LiveSet B g
set_moves set same = record {
  once = set.once;
  live = λ e m. (same e).0 (set.live e m);
  all = λ e x. set.all e ((same e).1 x);
}

pub same_blocks : SameBlocks
same_blocks s t ws wt size same =
    let view : shown s ≡ shown t =
    shown-expected s ws (blocks-set s ws) ∙ ap (λ (n : ℕ). expected n (blocks s)) size ∙ sym (shown-expected t wt (set_moves (blocks-set s ws) same)) in
    record {
      view = view;
      ruled = λ call. calls_ruled s ws call ∙ ap (λ (v : View). ruling v call) view ∙ sym (calls_ruled t wt call);
    }

pub set-only : SetOnly
set-only s wf B D set once same =
    sym (shown-expected s wf set) ∙ shown-expected s wf (record {
      once = once;
      live = λ e m. set.live e ((same e).1 m);
      all = λ e x. (same e).0 (set.all e x);
    })

pub all-freed : AllFreed
unfolding fresh
all-freed s wf empty =
    (same_blocks s (fresh s.size) wf (fresh-well s.size wf.some-page) refl (λ e. (λ x. absurd (empty e x), λ x. absurd (fresh_empty s.size e x)))).view

-- ---- freeing a live block

-- the answer, on the block's page x
freed_on : (s : State) (e : Block) (p : ℕ) (x : Page) → On x p e → (free_at s p (offset e - 4096 * p) x).answer ≡ freed (extent e)
unfolding On free_at extent
freed_on s e p (slab c m) (i, q, o, l, t) =
    let z : offset e - 4096 * p ≡ chunk c * i = omega (arith, ap offset q) in
    let (a, b) = starts_chunk_lem c i o in
    rw (z, a, b, t) (ap freed (sym (ap extent q)))
freed_on s e p (taken n) q =
    let z : offset e - 4096 * p ≡ 0 = omega (arith, ap offset q) in
    rw z (ap freed (sym (ap extent q)))
freed_on s e p edge q = elim q [ ]
freed_on s e p inside q = elim q [ ]
freed_on s e p idle q = elim q [ ]

pub live-freed : LiveFreed
unfolding step free Live
live-freed s wf e (p, x) =
    let (l, u) = on_page (s.page p) (wf.table.each p) p e x in
    let a : offset e / 4096 ≡ p = omega arith in
    let b : offset e % 4096 ≡ offset e - 4096 * p = omega arith in
    rw (a, b) (freed_on s e p (s.page p) x)

module _ (s : State) (wf : WellFormed s) (e : Block) (live : Live s.page e) where
  abbrev K : Kept s (Effect (Free (offset e))) (step s (Free (offset e)))
  K = step_kept s wf (Free (offset e))

  without-well : WellFormed (without s e)
  unfolding without
  without-well = K.well

  without-size : (without s e).size ≡ s.size
  unfolding without
  without-size = K.size

  struck : Strikes s.page (without s e).page (offset e) (extent e)
  unfolding without Effect FreeEffect
  struck = rw (live-freed s wf e live) at K.effect

  -- the other live blocks stay
  without-live : (d : Block) → Live (without s e).page d ↔ (Live s.page d × (offset d ≢ offset e))
  without-live d = (λ x. struck.gone d x, λ (x, n). struck.kept d x n)

-- the block b that was added is freed again
module _ (s t : State) (ws : WellFormed s) (wt : WellFormed t) (size : t.size ≡ s.size) (b : Block) (add : Adds s.page t.page b) where
  undone : shown (without t b) ≡ shown s
  undone =
      (same_blocks (without t b) s (without-well t wt b add.made) ws (without-size t wt b add.made ∙ size)
      (λ e. (λ x. back e ((without-live t wt b add.made e).0 x), λ x. (without-live t wt b add.made e).1 (add.kept e x, other e x)))).view
    where
      back : (e : Block) → Live t.page e × (offset e ≢ offset b) → Live s.page e
      back e (x, d) = side (add.only e x)
        where
          side : (e ≡ b) ⊎ Live s.page e → Live s.page e
          side (inl z) = absurd (d (ap offset z))
          side (inr y) = y

      other : (e : Block) → Live s.page e → offset e ≢ offset b
      other e x z = add.new (subst (Live s.page) (live_same wt.table e b (add.kept e x) add.made z) x)

block_offset : (need : Need) (off : ℕ) → offset (block_for need off) ≡ off
unfolding block_for
block_offset nothing off = refl
block_offset (chunk_of c) off = refl
block_offset (pages k) off = refl

pub alloc-freed : AllocFreed
unfolding Effect AllocEffect without
alloc-freed s wf n off h =
    let K : Kept s (Effect (Alloc n)) (step s (Alloc n)) = step_kept s wf (Alloc n) in
    let add : Adds s.page (step s (Alloc n)).after.page (block_for (need_of n) off) = rw h at K.effect in
    record {
      granted = rw block_offset at (live-freed (step s (Alloc n)).after K.well (block_for (need_of n) off) add.made);
      view =
          ap (λ (a : ℕ). shown (step (step s (Alloc n)).after (Free a)).after) (sym (block_offset (need_of n) off))
          ∙ undone s (step s (Alloc n)).after wf K.well K.size (block_for (need_of n) off) add;
    }

-- the blocks left when d and then e are freed
module _ (s : State) (wf : WellFormed s) (d e : Block) (x : Live s.page d) (y : Live s.page e) (n : d ≢ e) where
  still : Live (without s d).page e
  still = (without-live s wf d x e).1 (y, λ z. n (sym (live_same wf.table e d y x z)))

  both-well : WellFormed (without (without s d) e)
  both-well = without-well (without s d) (without-well s wf d x) e still

  both-size : (without (without s d) e).size ≡ s.size
  both-size = without-size (without s d) (without-well s wf d x) e still ∙ without-size s wf d x

  both-live : (b : Block) → Live (without (without s d) e).page b ↔ (Live s.page b × (offset b ≢ offset d) × (offset b ≢ offset e))
  both-live b = (λ z. there z, λ (u, v, w). (without-live (without s d) (without-well s wf d x) e still b).1 ((without-live s wf d x b).1 (u, v), w))
    where
      there : Live (without (without s d) e).page b → Live s.page b × (offset b ≢ offset d) × (offset b ≢ offset e)
      there z =
          let (u, w) = (without-live (without s d) (without-well s wf d x) e still b).0 z in
          let (a, v) = (without-live s wf d x b).0 u in
          (a, v, w)

pub freed-either_way : FreedEitherWay
freed-either_way s wf d e x y n =
    (same_blocks (without (without s d) e) (without (without s e) d) (both-well s wf d e x y n) (both-well s wf e d y x (λ z. n (sym z)))
    (both-size s wf d e x y n ∙ sym (both-size s wf e d y x (λ z. n (sym z))))
    (λ b. (
      λ z. let (u, v, w) = (both-live s wf d e x y n b).0 z in (both-live s wf e d y x (λ z. n (sym z)) b).1 (u, w, v),
      λ z. let (u, v, w) = (both-live s wf e d y x (λ z. n (sym z)) b).0 z in (both-live s wf d e x y n b).1 (u, w, v),
    ))).view
