-- The three demands on the bytes of a pool, each citing definitions only.
use Rattle.std.specs.Prelude.{◌≡◌, ◌↔◌, ◌≢◌, false, List, [], ◌∷◌, ℕ, ◌+◌, ◌≤◌, ◌<◌, eqb, length, get_or}
use Rattle.base.specs.Tests.{pick}
use Rattle.base.specs.Lists.{Mem, NoDup, keep}
use Rattle.words.specs.Word.{Bytes}
use Rattle.records.specs.Layout.{pages_from}
use Rattle.answers.specs.Outcome.{Outcome, granted, refused}
use Rattle.answers.specs.declared.Refusal.TheVariants.{NotSound, NothingAsked}
use Rattle.model.specs.Classes.{chunk_of, pages, need_of}
use Rattle.model.specs.Calls.{Call, Alloc, Free, tallied, step}
use Rattle.model.specs.Live.{Block, offset, extent, Disjoint, Live, LiveSet, BlocksPlaced, block_for, elsewhere}
use Rattle.model.specs.View.{vacant, View}
use Rattle.model.specs.Expected.{expected}
use Rattle.model.specs.Ruling.{Verdict, granted as allowed, refused as denied, clear_in, page_in, run_in, ruling}
use Rattle.format.specs.Format.{shortest, too_long, formatted}
use Rattle.rules.specs.Bytes.{pages_in, broken_rule, read}
use Rattle.drawing.specs.Draw.{in_map, draw}
use Rattle.drawing.specs.Noise.{SameRecords}
use Rattle.demands.specs.Calls.{outcome, answered, after}
use Rattle.demands.specs.Shown.{shown_by}

-- the number that a verdict has in an answer: 0 where the call is granted
abbrev pub number_in : Verdict → ℕ
number_in allowed = 0
number_in (denied k) = k

-- ---- demand 1: every call answers; refusals change nothing

-- the block is live in the state that the records show
abbrev pub live_in : (w : ℕ) (s : List ℕ) (e : Block) → Type 0
live_in w s e = Live (read w s).page e

pub record Demand1 (w : ℕ) (s : List ℕ) : Type 0 where
  -- the slice keeps its length and holds bytes
  pub length-kept : (call : Call) → length (after w s call) ≡ length s
  pub bytes-kept : (call : Call) → Bytes (after w s call)
  -- unsound records are refused with 3 and nothing changes
  pub unsound : broken_rule w s ≢ 0 → (call : Call) → (answered w s call ≡ refused NotSound) × (after w s call ≡ s)
  -- nothing asked is refused as such, and changes nothing
  pub nothing_asked_lem : broken_rule w s ≡ 0 → (answered w s (Alloc 0) ≡ refused NothingAsked) × (after w s (Alloc 0) ≡ s)
  -- a refused call leaves the slice as it was, but for the tally of a refused chunk
  pub refused-run : (n k : ℕ) → need_of n ≡ pages k → (answered w s (Alloc n)).number ≢ 0 → after w s (Alloc n) ≡ s
  pub refused-chunk : (n c : ℕ) → broken_rule w s ≡ 0 → need_of n ≡ chunk_of c → (answered w s (Alloc n)).number ≢ 0 →
      after w s (Alloc n) ≡ draw w s (tallied (read w s) c)
  pub refused-free : (off : ℕ) → (answered w s (Free off)).number ≢ 0 → after w s (Free off) ≡ s
  -- a free is granted exactly where a live block begins, and else refused by the table's number
  pub free-granted : (off : ℕ) → broken_rule w s ≡ 0 → ((answered w s (Free off)).number ≡ 0) ↔ ((e : Block) × live_in w s e × (offset e ≡ off))
  pub free-number : (off : ℕ) → broken_rule w s ≡ 0 → (answered w s (Free off)).number ≡ number_in (ruling (shown_by w s) (Free off))
  -- granted, it tells the block's bytes
  pub free-tells : (e : Block) → broken_rule w s ≡ 0 → live_in w s e → answered w s (Free (offset e)) ≡ granted (extent e)

-- ---- demand 2: on sound records

pub record Demand2 (w : ℕ) (s : List ℕ) (sound : broken_rule w s ≡ 0) : Type 0 where
  -- the call's answer and next state are the model's: same offset, lists, counts
  pub sound-after : (call : Call) → broken_rule w (after w s call) ≡ 0
  pub answer : (call : Call) → answered w s call ≡ outcome (step (read w s) call).answer
  pub state : (call : Call) → read w (after w s call) ≡ (step (read w s) call).after
  -- refused for room exactly when there is none
  pub no_chunk : (n c : ℕ) → need_of n ≡ chunk_of c → ((answered w s (Alloc n)).number ≡ 4) ↔ ((clear_in (shown_by w s) c ≡ false) × (page_in (shown_by w s) ≡ false))
  pub no_run : (n k : ℕ) → need_of n ≡ pages k → ((answered w s (Alloc n)).number ≡ 4) ↔ (run_in (shown_by w s) k ≡ false)
  -- live blocks overlap neither each other nor the maps, and lie in the pages, past the records
  pub placed : BlocksPlaced (read w s)
  -- no byte of a block that is live before and after the call changes
  pub untouched : (call : Call) (e : Block) → live_in w s e → live_in w (after w s call) e → (i : ℕ) → offset e ≤ i → i < offset e + extent e →
      get_or (after w s call) (pages_from w (pages_in w s) + i) 0 ≡ get_or s (pages_from w (pages_in w s) + i) 0
  -- no byte outside header, records and maps changes
  pub outside : (call : Call) (i : ℕ) → pages_from w (pages_in w s) ≤ i → in_map (pages_from w (pages_in w s)) (read w s) i ≡ false →
      in_map (pages_from w (pages_in w s)) (read w (after w s call)) i ≡ false → get_or (after w s call) i 0 ≡ get_or s i 0

-- ---- demand 3: one claim about the whole list

-- what s may have become before a call: callers' bytes and the tail any others, length, header, records and maps as the last call left them
abbrev pub Rewritten : (w : ℕ) (s u : List ℕ) → Type 0
Rewritten w s u = SameRecords w s u × Bytes u

-- a call, and what the slice holds when it is made
pub record Turn : Type 0 where
  pub bytes : List ℕ
  pub call : Call

-- the live set (SPEC 6.2) after a call, from its argument and its answer alone
unfoldable pub fed : List Block → Call → Outcome → List Block
fed B (Alloc n) o = pick (eqb o.number 0) (block_for (need_of n) o.value ∷ B) B
fed B (Free off) o = pick (eqb o.number 0) (keep (elsewhere off) B) B

-- before each call nothing but callers' bytes and the tail was written
abbrev pub Allowed : ℕ → List ℕ → List Turn → Type 0
Allowed w s [] = Unit {0}
Allowed w s (t ∷ ts) = Rewritten w s t.bytes × Allowed w (after w t.bytes t.call) ts

-- the slice and the live set after a list of turns
abbrev pub played : ℕ → List ℕ → List Turn → List ℕ
played w s [] = s
played w s (t ∷ ts) = played w (after w t.bytes t.call) ts

abbrev pub book : ℕ → List Block → List Turn → List Block
book w B [] = B
book w B (t ∷ ts) = book w (fed B t.call (answered w t.bytes t.call)) ts

-- u is reached from s with the live set B: by format, which accepts s, and a list of turns; callers may have written since
pub record Reached (w : ℕ) (s : List ℕ) (B : List Block) (u : List ℕ) : Type 0 where
  pub some : shortest w ≤ length s
  pub most : length s < too_long w
  pub turns : List Turn
  pub allowed : Allowed w (formatted w s) turns
  pub live : book w [] turns ≡ B
  pub since : Rewritten w (played w (formatted w s) turns) u

-- u is reached from s, whose live blocks are listed in D, with the live set B: by a list of turns; callers may have written since
pub record Onward (w : ℕ) (s : List ℕ) (D B : List Block) (u : List ℕ) : Type 0 where
  pub turns : List Turn
  pub allowed : Allowed w s turns
  pub live : book w D turns ≡ B
  pub since : Rewritten w (played w s turns) u

-- a granted alloc overlaps no block of the live set
unfoldable pub Apart : List Block → Call → Outcome → Type 0
Apart B (Alloc n) o = o.number ≡ 0 → (e : Block) → Mem e B → Disjoint (block_for (need_of n) o.value) e
Apart B (Free off) o = Unit {0}

-- a pool of P pages with the live set B
pub record Faithful (w P : ℕ) (B : List Block) (s : List ℕ) : Type 0 where
  pub sound : broken_rule w s ≡ 0
  pub size : pages_in w s ≡ P
  -- the five: free runs, class pages, maps, used and total are those of the expected view (SPEC 6.3)
  pub view : shown_by w s ≡ expected P B
  pub once : NoDup B
  pub live : (e : Block) → Mem e B ↔ live_in w s e
  -- the next call
  pub apart : (call : Call) → Apart B call (answered w s call)
  pub ruled : (call : Call) → (answered w s call).number ≡ number_in (ruling (expected P B) call)
  -- a free of a live block tells its bytes
  pub tells : (e : Block) → Mem e B → answered w s (Free (offset e)) ≡ granted (extent e)

-- after any list of turns from what format leaves of any slice that it accepts
abbrev pub Demand3 : (w : ℕ) (s : List ℕ) → Type 0
Demand3 w s = (B : List Block) (u : List ℕ) → Reached w s B u → Faithful w (pages_in w s) B u

-- the same from any sound records, with their live blocks
abbrev pub Demand3From : (w : ℕ) (s : List ℕ) → Type 0
Demand3From w s = broken_rule w s ≡ 0 → (D : List Block) → LiveSet D (read w s).page → (B : List Block) (u : List ℕ) → Onward w s D B u →
    Faithful w (pages_in w s) B u

-- ---- what follows from demand 3, with live blocks from calls and answers alone

-- a view of P pages that are one free run, with nothing else in it
pub record OneFreeRun (P : ℕ) (v : View) : Type 0 where
  pub size : v.size ≡ P
  pub run : v.free_run 0 ≡ P
  pub no_other : (p : ℕ) → 1 ≤ p → v.free_run p ≡ 0
  pub all_free : (p : ℕ) → v.page p ≡ vacant
  pub no-mark : (p i : ℕ) → v.mark p i ≡ false
  pub none_used : (c : ℕ) → v.used c ≡ 0
  pub none-counted : (c : ℕ) → v.total c ≡ 0

pub record BookCorollaries (w : ℕ) (s : List ℕ) : Type 0 where
  -- a granted alloc that is freed next, whatever callers wrote in between: the free is granted, and the five are as before
  pub alloc-freed : (B : List Block) (u : List ℕ) → Reached w s B u → (n off : ℕ) → answered w u (Alloc n) ≡ granted off →
      (v : List ℕ) → Rewritten w (after w u (Alloc n)) v →
      ((answered w v (Free off)).number ≡ 0) × (shown_by w (after w v (Free off)) ≡ shown_by w u)
  -- two blocks of the live set are freed one after the other: both frees are granted ..
  pub both-freed : (B : List Block) (d e : Block) → Mem d B → Mem e B → d ≢ e →
      (u v : List ℕ) → Reached w s B u → Rewritten w (after w u (Free (offset d))) v →
      ((answered w u (Free (offset d))).number ≡ 0) × ((answered w v (Free (offset e))).number ≡ 0)
  -- .. and leave the same five in either order, whatever callers wrote before each
  pub either_way : (B : List Block) (d e : Block) → Mem d B → Mem e B → d ≢ e →
      (u v : List ℕ) → Reached w s B u → Rewritten w (after w u (Free (offset d))) v →
      (u' v' : List ℕ) → Reached w s B u' → Rewritten w (after w u' (Free (offset e))) v' →
      shown_by w (after w v (Free (offset e))) ≡ shown_by w (after w v' (Free (offset d)))
  -- with the live set empty the pool is one free run again, as the expected view of no blocks is
  pub all-freed : (u : List ℕ) → Reached w s [] u → OneFreeRun (pages_in w s) (shown_by w u) × (shown_by w u ≡ expected (pages_in w s) [])
  -- two pools of as many pages whose live sets hold the same blocks, whatever led there, show the same five, and every next call is
  -- granted, or refused by the same number, alike
  pub alike : (t : List ℕ) → Bytes t → pages_in w s ≡ pages_in w t → (B D : List Block) (u v : List ℕ) → Reached w s B u → Reached w t D v →
      ((e : Block) → Mem e B ↔ Mem e D) → (shown_by w u ≡ shown_by w v) × ((call : Call) → (answered w u call).number ≡ (answered w v call).number)

-- ---- the same on any sound records, with live blocks as the maps show them, and calls one right after the other

pub record Corollaries (w : ℕ) (s : List ℕ) : Type 0 where
  -- a granted alloc that is freed at once leaves the five as before
  pub alloc-freed : (n off : ℕ) → answered w s (Alloc n) ≡ granted off →
      ((answered w (after w s (Alloc n)) (Free off)).number ≡ 0) × (shown_by w (after w (after w s (Alloc n)) (Free off)) ≡ shown_by w s)
  -- two live blocks freed in either order leave the same five
  pub either_way : (d e : Block) → live_in w s d → live_in w s e → d ≢ e →
      shown_by w (after w (after w s (Free (offset d))) (Free (offset e))) ≡ shown_by w (after w (after w s (Free (offset e))) (Free (offset d)))
  -- with all blocks freed the pool is one free run again
  pub all-freed : ((e : Block) → ¬ live_in w s e) → shown_by w s ≡ expected (pages_in w s) []
  -- two pools of as many pages with the same live blocks show the same five, and every next call is granted, or refused by the same number, alike
  pub alike : (t : List ℕ) → Bytes t → broken_rule w t ≡ 0 → pages_in w s ≡ pages_in w t → ((e : Block) → live_in w s e ↔ live_in w t e) →
      (shown_by w s ≡ shown_by w t) × ((call : Call) → (answered w s call).number ≡ (answered w t call).number)

-- ---- all of them, over the class record's width

pub record Demands (w : ℕ) (s : List ℕ) : Type 0 where
  pub demand1 : Demand1 w s
  pub demand2 : (sound : broken_rule w s ≡ 0) → Demand2 w s sound
  pub demand3 : Demand3 w s
  pub demand3-from : Demand3From w s
  pub book-corollaries : BookCorollaries w s
  pub corollaries : broken_rule w s ≡ 0 → Corollaries w s

abbrev pub Claims : Type 0
Claims = (w : ℕ) → 2 ≤ w → w ≤ 255 → (s : List ℕ) → Bytes s → Demands w s
