-- What the model's laws say to a keeper: its blocks stay, a new block lies apart from all others, and a size fits its block.
use mathlib.Core.Path.{◌≡◌, refl, sym, ap, ◌∙◌, subst}
use mathlib.Core.Logic.{inl, inr, ◌≢◌}
use mathlib.Core.Bool.{Bool, true, false, cond, ◌||◌}
use Prim.Native.Nat.{ℕ, ◌≤◌}
use native.Mathlib.Omega.{arith}
use lib.Dec.{eqb, leb}
use borrow.Author.Tests.{leb-true, eqb-true}
use Rattle.base.specs.Search.{least}
use Rattle.base.proofs.Cases.{never, cond_case}
use Rattle.base.proofs.Search.{least_spec}
use Rattle.model.specs.Classes.{chunk, class_of, pages_for, Need, nothing, chunk_of, pages, need_of}
use Rattle.model.specs.State.{Page, State}
use Rattle.model.specs.WellFormed.{WellFormed}
use Rattle.model.specs.Calls.{Call, Alloc, Free, Answer, at, freed, no, no_room, step}
use Rattle.model.specs.Live.{Block, offset, extent, Disjoint, Off, Live, block_for}
use Rattle.model.specs.Effects.{Adds, Strikes, AllocEffect, FreeEffect, Effect}
use Rattle.model.specs.View.{shown}
use Rattle.model.specs.Ruling.{Verdict, granted, refused, clear_in, page_in, run_in, alloc_ruling, ruling}
use Rattle.model.proofs.Classes.{class_ok}
use Rattle.model.proofs.Blocks.{live_same, live-apart}
use Rattle.model.proofs.Claim.{claims}
use Rattle.keeper_model.specs.Directory.{Room, released_by, room_at}

-- ---- sizes

class-fits : (n : ℕ) → n ≤ 2048 → n ≤ chunk (class_of n)
unfolding class_of
class-fits n h =
    let l : least (λ c. leb n (chunk c)) 9 ≤ 8 = class_ok n h in
    leb-true n (chunk (least (λ c. leb n (chunk c)) 9)) ((least_spec (λ c. leb n (chunk c)) 9).passes (omega arith))

pub size_fits : (n off : ℕ) → n ≤ extent (block_for (need_of n) off)
unfolding need_of block_for extent pages_for
size_fits n off = cond_case (λ (x : Need). n ≤ extent (block_for x off)) (eqb n 0) (λ e. omega (arith, eqb-true n 0 e)) (λ _. go (leb n 2048) refl)
  where
    go : (t : Bool) → leb n 2048 ≡ t → n ≤ extent (block_for (cond t (chunk_of (class_of n)) (pages (pages_for n))) off)
    go true e = class-fits n (leb-true n 2048 e)
    go false e = omega arith

-- a size of at least one byte asks for something
asks : (n : ℕ) → 1 ≤ n → need_of n ≢ nothing
unfolding need_of
asks n pos =
    cond_case (λ (x : Need). x ≢ nothing) (eqb n 0) (λ e. absurd (omega (arith, eqb-true n 0 e)))
    (λ _. cond_case (λ (x : Need). x ≢ nothing) (leb n 2048) (λ _ h. never (cc)) (λ _ h. never (cc)))

block_at : (need : Need) (off : ℕ) → offset (block_for need off) ≡ off
unfolding block_for
block_at nothing off = refl
block_at (chunk_of c) off = refl
block_at (pages k) off = refl

-- ---- blocks that stay

-- the call does not free the block at the offset
abbrev pub Spares : Call → ℕ → Type 0
Spares (Alloc n) off = Unit {0}
Spares (Free o) off = off ≢ o

effect-keeps : (f f' : ℕ → Page) (call : Call) (a : Answer) → Effect call f a f' → (e : Block) → Spares call (offset e) → Live f e → Live f' e
unfolding Effect AllocEffect FreeEffect
effect-keeps f f' (Alloc n) (at off) x e h l = x.kept e l
effect-keeps f f' (Alloc n) (freed k) x e h l = absurd x
effect-keeps f f' (Alloc n) (no k) x e h l = rw x l
effect-keeps f f' (Free o) (at off) x e h l = absurd x
effect-keeps f f' (Free o) (freed k) x e h l = x.kept e l h
effect-keeps f f' (Free o) (no k) x e h l = rw x l

module _ (s : State) (wf : WellFormed s) where
  pub call-well : (call : Call) → WellFormed (step s call).after
  call-well call = (claims.calls_keep s wf call).well

  pub live-kept : (call : Call) (e : Block) → Spares call (offset e) → Live s.page e → Live (step s call).after.page e
  live-kept call e = effect-keeps s.page (step s call).after.page call (step s call).answer (claims.calls_keep s wf call).effect e

  pub room_kept : (call : Call) (off n : ℕ) → Spares call off → Room s.page off n → Room (step s call).after.page off n
  room_kept call off n h (e, l, o, r) = (e, live-kept call e (subst (Spares call) (sym o) h) l, o, r)

  -- ---- a granted alloc

  module _ (n off : ℕ) (at_off : (step s (Alloc n)).answer ≡ at off) where
    abbrev new : Block
    new = block_for (need_of n) off

    abbrev t : State
    t = (step s (Alloc n)).after

    added : Adds s.page t.page new
    unfolding Effect AllocEffect
    added = rw at_off at (claims.calls_keep s wf (Alloc n)).effect

    pub new_room : Room t.page off n
    new_room = (new, added.made, block_at (need_of n) off, size_fits n off)

    pub new-offset : (e : Block) → Live s.page e → offset e ≢ off
    new-offset e l z =
        added.new (subst (Live s.page) (live_same (call-well (Alloc n)).table e new (added.kept e l) added.made (z ∙ sym (block_at (need_of n) off))) l)

    -- the first n bytes of the new block lie off every block that was live
    pub new_apart : (e : Block) → Live s.page e → Off e off n
    new_apart e l = go (live-apart (call-well (Alloc n)).table new e added.made (added.kept e l) (λ z. new-offset e l (sym (ap offset z) ∙ block_at (need_of n) off)))
      where
        go : Disjoint new e → Off e off n
        go (inl h) = inr (omega (arith, size_fits n off, block_at (need_of n) off))
        go (inr h) = inl (omega (arith, block_at (need_of n) off))

  -- ---- a refused alloc

  pub never_freed : (n k : ℕ) → (step s (Alloc n)).answer ≡ freed k → ⊥
  unfolding Effect AllocEffect
  never_freed n k e = rw e at (claims.calls_keep s wf (Alloc n)).effect

  pub refused_for_room : (n k : ℕ) → 1 ≤ n → (step s (Alloc n)).answer ≡ no k → k ≡ no_room
  unfolding ruling alloc_ruling
  refused_for_room n k pos e = go (need_of n) (asks n pos) (rw e at (claims.calls_ruled s wf (Alloc n)))
    where
      side : (t : Bool) → ◌≡◌ {A = Verdict} (refused k) (cond t granted (refused no_room)) → k ≡ no_room
      side true h = absurd (never (cc))
      side false h = cc

      go : (need : Need) → need ≢ nothing → refused k ≡ alloc_ruling (shown s) need → k ≡ no_room
      go nothing d h = absurd (d refl)
      go (chunk_of c) d h = side (clear_in (shown s) c || page_in (shown s)) h
      go (pages j) d h = side (run_in (shown s) j) h

  -- ---- the room at an offset

  pub room_says : (off n : ℕ) → 1 ≤ n → n ≤ room_at s off → Room s.page off n
  unfolding room_at Effect FreeEffect
  room_says off n pos h = go (step s (Free off)).answer refl h
    where
      go : (a : Answer) → (step s (Free off)).answer ≡ a → n ≤ released_by a → Room s.page off n
      go (at o) e l = absurd (omega arith)
      go (freed k) e l =
          let S : Strikes s.page (step s (Free off)).after.page off k = rw e at (claims.calls_keep s wf (Free off)).effect in
          let (b, x, o, y) = S.was in
          (b, x, o, omega arith)
      go (no k) e l = absurd (omega arith)

  pub says_room : (off n : ℕ) → Room s.page off n → n ≤ room_at s off
  unfolding room_at
  says_room off n (e, l, o, r) = rw (← o, claims.live-freed s wf e l) r
