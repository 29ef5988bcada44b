-- Editions (SPEC 2): the first byte of a slice tells which one it is read as, before anything else is looked at.
use Rattle.std.specs.Prelude.{◌≡◌, ◌≢◌, List, ℕ, ◌+◌, ◌≤◌, ◌<◌, eqb, length, get_or}
use Rattle.base.specs.Tests.{pick}
use Rattle.words.specs.Word.{Bytes}
use Rattle.answers.specs.Outcome.{Outcome, refused}
use Rattle.answers.specs.declared.Refusal.TheVariants.{NotSound}
use Rattle.model.specs.Calls.{Call}
use Rattle.format.specs.Format.{format_outcome, formatted}
use Rattle.rules.specs.Bytes.{broken_rule}
use Rattle.demands.specs.Calls.{after}
use Rattle.demands.specs.Demands.{Demands}
use Rattle.demands.specs.Peaks.{Peaking}

-- the words of a class record: 3 in edition 2, 2 in edition 1, as which every other byte is read
unfoldable pub width_of : (s : List ℕ) → ℕ
width_of s = pick (eqb (get_or s 0 0) 2) 3 2

-- ---- format, told the number of an edition: one that there is not is refused with 3, before the length is looked at

unfoldable pub format_as_outcome : (edition len : ℕ) → Outcome
format_as_outcome e len = pick (eqb e 1) (format_outcome 2 len) (pick (eqb e 2) (format_outcome 3 len) (refused NotSound))

unfoldable pub formatted_as : (edition : ℕ) (s : List ℕ) → List ℕ
formatted_as e s = pick (eqb e 1) (formatted 2 s) (pick (eqb e 2) (formatted 3 s) s)

-- ---- what holds of every slice, whatever its edition

pub record OfEdition (s : List ℕ) : Type 0 where
  -- a byte other than 1 and 2 breaks rule 1
  pub unknown : get_or s 0 0 ≢ 1 → get_or s 0 0 ≢ 2 → broken_rule (width_of s) s ≡ 1
  -- sound records of an edition have its number first, and are read as that edition's
  pub told : (w : ℕ) → 2 ≤ w → w ≤ 3 → broken_rule w s ≡ 0 → (get_or s 0 0 + 1 ≡ w) × (width_of s ≡ w)
  -- calls leave a pool in its edition; format makes one of the edition that it is told, and where it is refused leaves the slice
  pub kept : (call : Call) → width_of (after (width_of s) s call) ≡ width_of s
  pub made : (e : ℕ) → (format_as_outcome e (length s)).number ≡ 0 → (get_or (formatted_as e s) 0 0 ≡ e) × (broken_rule (e + 1) (formatted_as e s) ≡ 0)
  pub left : (e : ℕ) → (format_as_outcome e (length s)).number ≢ 0 → formatted_as e s ≡ s
  -- all demands, in which a list of turns, and pools that are compared, are of one edition, and which say nothing of peaks
  pub demands : Demands (width_of s) s
  pub peaking : width_of s ≡ 3 → (c : ℕ) → c < 9 → Peaking 3 s c

abbrev pub EditionClaims : Type 0
EditionClaims = (s : List ℕ) → Bytes s → OfEdition s
