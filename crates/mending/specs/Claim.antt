-- What is promised of mended pools beyond the equations, each citing definitions only.
use Rattle.std.specs.Prelude.{◌≡◌, ◌≢◌, ◌↔◌, true, false, List, [], ◌∷◌, ℕ, suc, ◌≤◌, ◌<◌, length, get_or}
use Rattle.words.specs.Word.{Bytes}
use Rattle.records.specs.Class.{class_at, peak_at}
use Rattle.records.specs.Header.{header_at}
use Rattle.answers.specs.Outcome.{refused}
use Rattle.answers.specs.declared.Refusal.TheVariants.{NotSound, WrongLength, BeyondMending, OtherBlocks}
use Rattle.model.specs.State.{Run}
use Rattle.model.specs.Calls.{Call}
use Rattle.model.specs.View.{used_of}
use Rattle.model.specs.Live.{Block, LiveSet, blocks}
use Rattle.rules.specs.Fields.{Fields, kind, class, run, map, page_at}
use Rattle.rules.specs.Read.{tally_in}
use Rattle.rules.specs.Rules.{shape, rule5}
use Rattle.rules.specs.Bytes.{pages_in, fields_of, broken_rule, read}
use Rattle.drawing.specs.Draw.{larger}
use Rattle.demands.specs.Calls.{answered}
use Rattle.demands.specs.Shown.{shown_by}
use Rattle.demands.specs.Demands.{Turn, Allowed, played, Onward, Faithful}
use Rattle.demands.specs.Peaks.{most_used}
use Rattle.mending.specs.Mending.{shaped, table, SamePages, Accepted, repaired, mended_copy}
use Rattle.mending.specs.Checked.{check_outcome, mend_outcome, mended}

-- ---- lists in rising page order

-- the numbers rise, from a on
abbrev pub Ascending : ℕ → List ℕ → Type 0
Ascending a [] = Unit {0}
Ascending a (p ∷ ps) = (a ≤ p) × Ascending (suc p) ps

-- the runs stand in rising page order, from page a on
abbrev pub RunsAscend : ℕ → List Run → Type 0
RunsAscend a [] = Unit {0}
RunsAscend a (r ∷ rs) = (a ≤ r.start) × RunsAscend (suc r.start) rs

-- ---- what the damaged pool is judged by

-- v and u differ in links, counts and zero bits alone
pub record SameShape (n : ℕ) (v u : Fields) : Type 0 where
  pub kinds : (p : ℕ) → p < n → kind v p ≡ kind u p
  pub classes : (p : ℕ) → p < n → class v p ≡ class u p
  pub runs : (p : ℕ) → p < n → run v p ≡ run u p
  pub maps : (p : ℕ) → p < n → map v p ≡ map u p
  pub marks : (p : ℕ) → p < n → kind v p ≡ 2 → v.mark p ≡ u.mark p

-- shape, rule 5 and the pages depend on kinds, classes, run lengths and maps alone
abbrev pub ShapeOnly : Type 0
ShapeOnly = (n : ℕ) (v u : Fields) → SameShape n v u → (shape v n ≡ shape u n) × (rule5 v n ≡ rule5 u n) × (page_at v n ≡ page_at u n)

-- s is t with links, counts, tallies, peaks and zero bits lost or not, and nothing else: the same constants, kinds, classes, run lengths, maps and
-- pages
pub record LinksLost (w : ℕ) (s t : List ℕ) : Type 0 where
  pub lengths : length s ≡ length t
  pub edition : (header_at s).edition ≡ (header_at t).edition
  pub min_shift : (header_at s).min_shift ≡ (header_at t).min_shift
  pub page_shift : (header_at s).page_shift ≡ (header_at t).page_shift
  pub page_count : (header_at s).pages ≡ (header_at t).pages
  pub kinds : (p : ℕ) → p < pages_in w s → kind (fields_of w s) p ≡ kind (fields_of w t) p
  pub classes : (p : ℕ) → p < pages_in w s → class (fields_of w s) p ≡ class (fields_of w t) p
  pub runs : (p : ℕ) → p < pages_in w s → run (fields_of w s) p ≡ run (fields_of w t) p
  pub maps : (p : ℕ) → p < pages_in w s → map (fields_of w s) p ≡ map (fields_of w t) p
  pub pages : SamePages w s t

-- ---- an accepted copy t of s

pub record Restored (w : ℕ) (s t : List ℕ) : Type 0 where
  -- it has the pages that s shows, ..
  pub pages : (read w t).page ≡ table w s
  -- .. shows what mend's copy does, and is ruled alike
  pub view : shown_by w t ≡ shown_by w (mended_copy w s)
  pub ruled : (call : Call) → (answered w t call).number ≡ (answered w (mended_copy w s) call).number
  -- demand 3 starts from it, with the live blocks that s shows
  pub live : LiveSet (blocks (repaired w s)) (read w t).page
  pub onward : (B : List Block) (u : List ℕ) → Onward w t (blocks (repaired w s)) B u → Faithful w (pages_in w s) B u
  -- and the history of the peaks starts at their values
  pub history : 2 < w → (c : ℕ) → c < 9 → (turns : List Turn) → Allowed w t turns →
      peak_at w (played w t turns) c ≡ most_used w c (peak_at w t c) turns

-- ---- the refusals of the checker, in this order

pub record Refusals (w : ℕ) (s t : List ℕ) : Type 0 where
  pub other_length : length s ≢ length t → check_outcome w s t ≡ refused WrongLength
  pub other_edition : length s ≡ length t → get_or s 0 0 ≢ get_or t 0 0 → check_outcome w s t ≡ refused WrongLength
  pub beyond : length s ≡ length t → get_or s 0 0 ≡ get_or t 0 0 → shaped w s ≡ false → check_outcome w s t ≡ refused BeyondMending
  pub unsound : length s ≡ length t → get_or s 0 0 ≡ get_or t 0 0 → shaped w s ≡ true → broken_rule w t ≢ 0 → check_outcome w s t ≡ refused NotSound
  pub other_blocks : length s ≡ length t → get_or s 0 0 ≡ get_or t 0 0 → shaped w s ≡ true → broken_rule w t ≡ 0 → ¬ Accepted w s t →
      check_outcome w s t ≡ refused OtherBlocks

-- ---- mend's copy of s

pub record Copied (w : ℕ) (s : List ℕ) : Type 0 where
  -- it shows the state of the pages that s shows, with lists in rising page order
  pub read_back : read w (mended_copy w s) ≡ repaired w s
  pub page : (repaired w s).page ≡ table w s
  pub runs_rise : RunsAscend 0 (repaired w s).runs
  pub lists_rise : (c : ℕ) → Ascending 0 ((repaired w s).lists c)
  pub accepted : Accepted w s (mended_copy w s)
  -- asks and failures are kept, and each peak is the larger of what it was and of what is in use
  pub tallies : (c : ℕ) → c < 9 → tally_in (class_at w (mended_copy w s) c) ≡ tally_in (class_at w s c)
  pub peaks : 2 < w → (c : ℕ) → c < 9 → peak_at w (mended_copy w s) c ≡ larger (peak_at w s c) (used_of (repaired w s) c)

-- ---- all of it

pub record Laws (w : ℕ) (s : List ℕ) : Type 0 where
  pub copied : shaped w s ≡ true → Copied w s
  -- the checker says yes exactly when the copy is accepted
  pub checked_iff : (t : List ℕ) → Bytes t → ((check_outcome w s t).number ≡ 0) ↔ Accepted w s t
  pub refusals : (t : List ℕ) → Bytes t → Refusals w s t
  pub restored : (t : List ℕ) → Bytes t → Accepted w s t → Restored w s t
  -- a sound pool is accepted for what is left of it when links are lost, and for itself
  pub rescued : (t : List ℕ) → Bytes t → broken_rule w t ≡ 0 → LinksLost w s t → Accepted w s t
  pub itself : broken_rule w s ≡ 0 → Accepted w s s
  -- what the mender leaves is accepted, or it is refused and changes nothing
  pub mend_checked : (t : List ℕ) → (mend_outcome w s t).number ≡ 0 → (check_outcome w s (mended w s t)).number ≡ 0
  pub mend_refused : (t : List ℕ) → (mend_outcome w s t).number ≢ 0 → mended w s t ≡ t

pub record Claims : Type 0 where
  pub shape-only : ShapeOnly
  pub laws : (w : ℕ) → 2 ≤ w → w ≤ 255 → (s : List ℕ) → Bytes s → Laws w s
