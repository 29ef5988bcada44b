-- The laws between the bytes of a pool and its state, each citing definitions only.
use Rattle.std.specs.Prelude.{◌≡◌, ◌↔◌, false, List, ℕ, ◌≤◌, ◌<◌, length, get_or}
use Rattle.words.specs.Word.{Bytes}
use Rattle.records.specs.Layout.{pages_from}
use Rattle.records.specs.Class.{peak_at, peak_spare}
use Rattle.model.specs.Classes.{max_pages}
use Rattle.model.specs.State.{State}
use Rattle.model.specs.WellFormed.{WellFormed}
use Rattle.model.specs.View.{used_of}
use Rattle.model.specs.Calls.{Call, fresh, step}
use Rattle.image.specs.Image.{with_peaks}
use Rattle.format.specs.Format.{shortest, too_long, formatted}
use Rattle.rules.specs.Bytes.{pages_in, broken_rule, read}
use Rattle.drawing.specs.Draw.{map_has, in_map, mapped, draw, raised}
use Rattle.drawing.specs.Noise.{SameRecords}

-- a state that the bytes s have room for
pub record Fitting (w : ℕ) (s : List ℕ) (m : State) : Type 0 where
  pub well : WellFormed m
  pub size : m.size ≡ pages_in w s
  pub few : m.size ≤ max_pages

-- the peaks of s, where class records have a third word, are those of bytes over which the state is drawn: at least what it has in use,
-- and the bits after them 0
pub record Peaked (w : ℕ) (s : List ℕ) (m : State) : Type 0 where
  pub high : 2 < w → (c : ℕ) → c < 9 → used_of m c ≤ peak_at w s c
  pub spare : 2 < w → (c : ℕ) → c < 9 → peak_spare w s c ≡ 0

-- what holds of any bytes s, where class records have w words
pub record Laws (w : ℕ) (s : List ℕ) : Type 0 where
  -- sound bytes show a state that they have room for, and are its drawing
  pub sound-fits : broken_rule w s ≡ 0 → Fitting w s (read w s)
  pub sound_peaked : broken_rule w s ≡ 0 → Peaked w s (read w s)
  pub sound_drawn : broken_rule w s ≡ 0 → draw w s (read w s) ≡ s
  -- the drawing of such a state is sound and shows the state
  pub drawn_sound : (m : State) → Fitting w s m → Peaked w s m → broken_rule w (draw w s m) ≡ 0
  pub drawn_read : (m : State) → Fitting w s m → read w (draw w s m) ≡ m
  -- what the six rules mean
  pub sound_iff : (broken_rule w s ≡ 0) ↔ ((m : State) × Fitting w s m × Peaked w s m × (draw w s m ≡ s))
  -- a drawing has the length of what it is drawn over, and bytes; past the records it writes the maps in pages alone
  pub drawn_length : (m : State) → length (draw w s m) ≡ length s
  pub drawn_bytes : (m : State) → Fitting w s m → Bytes (draw w s m)
  pub drawn_kept : (m : State) (i : ℕ) → pages_from w m.size ≤ i → in_map (pages_from w m.size) m i ≡ false → get_or (draw w s m) i 0 ≡ get_or s i 0
  -- of a drawing under another the maps in its pages are left, and nothing where the other has a map wherever it had one
  pub drawn_over : (m n : State) → m.size ≡ n.size → draw w (draw w s m) n ≡ draw w (mapped w m s) n
  pub drawn_again : (m n : State) → m.size ≡ n.size → ((p j : ℕ) → map_has (n.page p) j ≡ false → map_has (m.page p) j ≡ false) →
      draw w (draw w s m) n ≡ draw w s n
  -- raised peaks are those of the state; where they were, nothing is raised
  pub raised_peaked : (m : State) → Fitting w s m → Peaked w (raised w s m) m
  pub raised_same : (m : State) → Peaked w s m → raised w s m ≡ s
  pub raised-length : (m : State) → length (raised w s m) ≡ length s
  pub raised-bytes : (m : State) → Bytes (raised w s m)
  pub raised-kept : (m : State) (i : ℕ) → pages_from w (pages_in w s) ≤ i → get_or (raised w s m) i 0 ≡ get_or s i 0
  -- callers' bytes and the tail do not matter
  pub noise_rule : (t : List ℕ) → SameRecords w s t → broken_rule w s ≡ broken_rule w t
  pub noise_read : (t : List ℕ) → SameRecords w s t → broken_rule w s ≡ 0 → read w s ≡ read w t
  -- format draws a fresh pool
  pub format_drawn : shortest w ≤ length s → length s < too_long w → formatted w s ≡ draw w (with_peaks w (λ c. 0) s) (fresh (pages_in w s))
  pub format_length : shortest w ≤ length s → length s < too_long w → length (formatted w s) ≡ length s
  pub format_bytes : shortest w ≤ length s → length s < too_long w → Bytes (formatted w s)
  pub format_sound : shortest w ≤ length s → length s < too_long w → broken_rule w (formatted w s) ≡ 0
  pub format_read : shortest w ≤ length s → length s < too_long w → read w (formatted w s) ≡ fresh (pages_in w s)
  -- the states that calls lead to have room
  pub fresh-fits : shortest w ≤ length s → length s < too_long w → Fitting w s (fresh (pages_in w s))
  pub next_fits : (m : State) → Fitting w s m → (call : Call) → Fitting w s (step m call).after

abbrev pub Claims : Type 0
Claims = (w : ℕ) → 2 ≤ w → w ≤ 255 → (s : List ℕ) → Bytes s → Laws w s
