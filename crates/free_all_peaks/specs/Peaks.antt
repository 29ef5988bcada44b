-- A list of frees, done or refused, moves no peak (SPEC 4.11).
use Rattle.std.specs.Prelude.{◌≡◌, List, ℕ, ◌<◌}
use Rattle.records.specs.Class.{peak_at}
use Rattle.sound_pools.specs.Sound.{Sound}
use Rattle.free_all_bytes.specs.FreeAll.{free_all_after}

abbrev pub PeaksStay : Type 0
PeaksStay = (w : ℕ) → 2 < w → (s : List ℕ) → Sound w s → (offs : List ℕ) → (c : ℕ) → c < 9 → peak_at w (free_all_after w s offs) c ≡ peak_at w s c
