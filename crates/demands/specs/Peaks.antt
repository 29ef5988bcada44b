-- The peak of a class over calls (SPEC 2.3), where class records have a third word.
use Rattle.std.specs.Prelude.{◌≡◌, List, [], ◌∷◌, ℕ, ◌≤◌, ◌<◌, length}
use Rattle.words.specs.Word.{Bytes}
use Rattle.records.specs.Class.{class_at, peak_at}
use Rattle.model.specs.Calls.{Call, Alloc, Free}
use Rattle.format.specs.Format.{shortest, too_long, formatted}
use Rattle.rules.specs.Bytes.{broken_rule}
use Rattle.drawing.specs.Draw.{larger}
use Rattle.demands.specs.Calls.{after}
use Rattle.demands.specs.Demands.{Turn, Allowed, played}

-- what class c has in use after a call
abbrev pub used_after : (w c : ℕ) (s : List ℕ) (call : Call) → ℕ
used_after w c s call = (class_at w (after w s call) c).used

-- the largest of `most` and what class c has in use after each turn
abbrev pub most_used : ℕ → ℕ → ℕ → List Turn → ℕ
most_used w c most [] = most
most_used w c most (t ∷ ts) = most_used w c (larger most (used_after w c t.bytes t.call)) ts

pub record Peaking (w : ℕ) (s : List ℕ) (c : ℕ) : Type 0 where
  -- on sound records an alloc that lifts used above the peak sets it to used; ..
  pub lifted : broken_rule w s ≡ 0 → (n : ℕ) → peak_at w s c < used_after w c s (Alloc n) → peak_at w (after w s (Alloc n)) c ≡ used_after w c s (Alloc n)
  -- .. no other alloc moves it, and no free
  pub stays : broken_rule w s ≡ 0 → (n : ℕ) → used_after w c s (Alloc n) ≤ peak_at w s c → peak_at w (after w s (Alloc n)) c ≡ peak_at w s c
  pub stays-freed : broken_rule w s ≡ 0 → (off : ℕ) → peak_at w (after w s (Free off)) c ≡ peak_at w s c
  -- from sound records on, whatever callers write in between, the peak is the largest of what it was and of what was in use after each call
  pub history : broken_rule w s ≡ 0 → (turns : List Turn) → Allowed w s turns → peak_at w (played w s turns) c ≡ most_used w c (peak_at w s c) turns
  -- from format on it is the most that was in use after any call
  pub from_format : shortest w ≤ length s → length s < too_long w → (turns : List Turn) → Allowed w (formatted w s) turns →
      peak_at w (played w (formatted w s) turns) c ≡ most_used w c 0 turns

abbrev pub PeakClaims : Type 0
PeakClaims = (w : ℕ) → 2 < w → w ≤ 255 → (s : List ℕ) → Bytes s → (c : ℕ) → c < 9 → Peaking w s c
