-- What is promised of convert beyond its equations, each citing definitions only.
use Rattle.std.specs.Prelude.{◌≡◌, ◌↔◌, ◌≢◌, List, ℕ, ◌+◌, ◌*◌, ◌≤◌, ◌<◌, length, get_or}
use Rattle.words.specs.Word.{Bytes}
use Rattle.records.specs.Layout.{pages_from}
use Rattle.records.specs.Class.{class_at, peak_at}
use Rattle.answers.specs.Outcome.{granted, refused}
use Rattle.answers.specs.declared.Refusal.TheVariants.{NotSound, WrongLength}
use Rattle.model.specs.Live.{Block}
use Rattle.rules.specs.Bytes.{pages_in, broken_rule, read}
use Rattle.demands.specs.Demands.{live_in, Turn, Allowed, played}
use Rattle.demands.specs.Shown.{shown_by}
use Rattle.demands.specs.Peaks.{most_used}
use Rattle.convert.specs.Convert.{convert_outcome, converted}

pub record Done (s t : List ℕ) : Type 0 where
  pub outcome : convert_outcome s t ≡ granted (pages_in 2 s)
  -- the target is a sound pool of edition 2 that shows the same: state, live blocks, and the five
  pub bytes : Bytes (converted s t)
  pub sound : broken_rule 3 (converted s t) ≡ 0
  pub state : read 3 (converted s t) ≡ read 2 s
  pub live : (e : Block) → live_in 3 (converted s t) e ↔ live_in 2 s e
  pub view : shown_by 3 (converted s t) ≡ shown_by 2 s
  -- page bytes are the source's, the tail is the target's
  pub lengths : length (converted s t) ≡ length t
  pub pages : (i : ℕ) → i < 4096 * pages_in 2 s → get_or (converted s t) (pages_from 3 (pages_in 2 s) + i) 0 ≡ get_or s (pages_from 2 (pages_in 2 s) + i) 0
  pub tail : (i : ℕ) → pages_from 3 (pages_in 2 s) + 4096 * pages_in 2 s ≤ i → get_or (converted s t) i 0 ≡ get_or t i 0
  -- the history of the peaks starts there
  pub peaks : (c : ℕ) → c < 9 → peak_at 3 (converted s t) c ≡ (class_at 2 s c).used
  pub history : (turns : List Turn) → Allowed 3 (converted s t) turns → (c : ℕ) → c < 9 →
      peak_at 3 (played 3 (converted s t) turns) c ≡ most_used 3 c (class_at 2 s c).used turns

pub record Conversion (s t : List ℕ) : Type 0 where
  -- 3 comes before 12; either leaves the target
  pub unsound : broken_rule 2 s ≢ 0 → (convert_outcome s t ≡ refused NotSound) × (converted s t ≡ t)
  pub wrong_length : broken_rule 2 s ≡ 0 → pages_in 3 t ≢ pages_in 2 s → (convert_outcome s t ≡ refused WrongLength) × (converted s t ≡ t)
  pub done : broken_rule 2 s ≡ 0 → pages_in 3 t ≡ pages_in 2 s → Done s t

abbrev pub Claims : Type 0
Claims = (s t : List ℕ) → Bytes s → Bytes t → Conversion s t
