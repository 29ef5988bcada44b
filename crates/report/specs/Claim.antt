-- What the definitions of a report promise, each citing definitions only.
use Rattle.std.specs.Prelude.{◌≡◌, ◌↔◌, List, [], ◌∷◌, ℕ, ◌+◌, ◌≤◌, ◌<◌, length}
use Rattle.base.specs.Lists.{Mem}
use Rattle.words.specs.Word.{Bytes}
use Rattle.answers.specs.declared.Refusal.TheVariants.{TooLong}
use Rattle.model.specs.State.{taken}
use Rattle.model.specs.Live.{Rising, LiveSet, blocks}
use Rattle.rules.specs.Bytes.{broken_rule, read}
use Rattle.rules.specs.Judged.{Rule}
use Rattle.printing.specs.Text.{line}
use Rattle.script_replies.specs.Replies.{refusal_line}
use Rattle.report_lines.specs.Lines.{Span, free_span, taken_span}
use Rattle.report.specs.Report.{too_long, spans, report_of, printout}

abbrev pub first_of : Span → ℕ
first_of (free_span first len) = first
first_of (taken_span first len) = first

-- the first pages rise, from a on
abbrev pub RisingSpans : ℕ → List Span → Type 0
RisingSpans a [] = Unit {0}
RisingSpans a (x ∷ xs) = (a ≤ first_of x) × RisingSpans (first_of x + 1) xs

-- of a sound image: a block line for each element of `blocks`, a run line for each of `spans`
pub record Listed (image : List ℕ) : Type 0 where
  -- each live block once and no other, in order of offset
  pub live : LiveSet (blocks (read 2 image)) (read 2 image).page
  pub rising : Rising 0 (blocks (read 2 image))
  -- each free run and each taken run once and no other, in page order
  pub free_runs : (p n : ℕ) → Mem (free_span p n) (spans (read 2 image)) ↔ Mem (record { start = p; len = n }) (read 2 image).runs
  pub taken_runs : (p n : ℕ) → Mem (taken_span p n) (spans (read 2 image)) ↔ ((read 2 image).page p ≡ taken n)
  pub in_order : RisingSpans 0 (spans (read 2 image))

pub record Claims : Type 0 where
  -- too long is refused with 2
  pub refused : (image : List ℕ) → too_long ≤ length image → printout image ≡ refusal_line TooLong
  -- else the first rule that does not hold is told, and nothing more
  pub told : (image : List ℕ) → length image < too_long → (k : ℕ) → 1 ≤ k → k ≤ 6 → ((j : ℕ) → 1 ≤ j → j < k → Rule 2 image j) → ¬ Rule 2 image k →
      printout image ≡ line [] k
  -- a sound image is listed
  pub reported : (image : List ℕ) → length image < too_long → broken_rule 2 image ≡ 0 → printout image ≡ report_of (read 2 image)
  pub listed : (image : List ℕ) → Bytes image → broken_rule 2 image ≡ 0 → Listed image
  -- a buffer of 262,144 bytes holds every printout
  pub fits : (image : List ℕ) → length (printout image) ≤ 262144
