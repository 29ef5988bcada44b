-- The statements of `specs/Claim.antt`, proved.
use mathlib.Core.Path.{◌≡◌, refl, sym, ap, ◌∙◌, subst}
use mathlib.Core.List.{[], ◌∷◌}
use Prim.Native.Nat.{ℕ}
use Rattle.model.specs.WellFormed.{WellFormed}
use Rattle.model.specs.Calls.{fresh, step}
use Rattle.model.specs.Live.{LiveSet, World, next, run_from, begin}
use Rattle.model.specs.Effects.{Effect}
use Rattle.model.specs.View.{View, shown}
use Rattle.model.specs.Expected.{expected}
use Rattle.model.specs.Ruling.{ruling}
use Rattle.model.specs.Claim.{Faithful, Demand3, Demand3From, Reads, ViewReads, Kept, SameLiveSets, Claims}
use Rattle.model.proofs.Steps.{step_kept}
use Rattle.model.proofs.Fresh.{fresh_empty, fresh-well}
use Rattle.model.proofs.LiveSets.{noted-set, noted-apart}
use Rattle.model.proofs.Readings.{reads}
use Rattle.model.proofs.Ruling.{calls_ruled}
use Rattle.model.proofs.Placing.{placing, new_bitmaps, callers_bytes}
use Rattle.model.proofs.Room.{refused-chunk, refused-pages, chunk_refused-shown, pages-refused-shown, refusals}
use Rattle.model.proofs.Alike.{shown-expected, same_blocks, set-only, all-freed, live-freed, alloc-freed, freed-either_way}
use Rattle.model.proofs.Examples.{examples_hold}

-- ---- demand 3

faithful : (w : World) → WellFormed w.state → LiveSet w.live w.state.page → Faithful w.state.size w
faithful w wf set =
    let view : shown w.state ≡ expected w.state.size w.live = shown-expected w.state wf set in
    record {
      well = wf;
      size = refl;
      live = set;
      view = view;
      apart = λ call. let K : Kept w.state (Effect call) (step w.state call) = step_kept w.state wf call in
          noted-apart w.live w.state.page (step w.state call).after.page call (step w.state call).answer K.well.table set K.effect;
      ruled = λ call. calls_ruled w.state wf call ∙ ap (λ (v : View). ruling v call) view;
    }

pub demand3-from : Demand3From
unfolding run_from next
demand3-from w wf set [] = faithful w wf set
demand3-from w wf set (c ∷ cs) =
    let K : Kept w.state (Effect c) (step w.state c) = step_kept w.state wf c in
    subst (λ (n : ℕ). Faithful n (run_from (next w c) cs)) K.size
    (demand3-from (next w c) K.well (noted-set w.live w.state.page (step w.state c).after.page c (step w.state c).answer set K.effect) cs)

pub demand3 : Demand3
unfolding begin fresh
demand3 P h calls =
    demand3-from (begin P) (fresh-well P h) (record { once = tt; live = λ e m. absurd m; all = λ e x. absurd (fresh_empty P e x) }) calls

pub view_reads : ViewReads
view_reads P h calls =
    let F : Faithful P (run_from (begin P) calls) = demand3 P h calls in
    subst (λ (n : ℕ). Reads n (run_from (begin P) calls).live) F.size (reads (run_from (begin P) calls).state F.well F.live)

-- ---- two lists of calls

pub same_live-sets : SameLiveSets
same_live-sets P h cs ds same =
    let A : Faithful P (run_from (begin P) cs) = demand3 P h cs in
    let B : Faithful P (run_from (begin P) ds) = demand3 P h ds in
    same_blocks (run_from (begin P) cs).state (run_from (begin P) ds).state A.well B.well (A.size ∙ sym B.size)
    (λ e. (λ x. B.live.live e ((same e).0 (A.live.all e x)), λ x. A.live.live e ((same e).1 (B.live.all e x))))

-- ---- all of them

pub claims : Claims
claims = record {
  demand3 = demand3;
  demand3-from = demand3-from;
  view_reads = view_reads;
  fresh-pool = λ P h. (fresh-well P h, fresh_empty P);
  calls_keep = step_kept;
  calls_ruled = calls_ruled;
  chunk_refused_lem = refused-chunk;
  chunk_refused-shown = chunk_refused-shown;
  pages-refused = refused-pages;
  pages-refused-shown = pages-refused-shown;
  refusals = refusals;
  placing = placing;
  new_bitmaps = new_bitmaps;
  callers_bytes = callers_bytes;
  same_blocks = same_blocks;
  same_live-sets = same_live-sets;
  set-only = set-only;
  all-freed = all-freed;
  live-freed = live-freed;
  alloc-freed = alloc-freed;
  freed-either_way = freed-either_way;
  examples_hold = examples_hold;
}
