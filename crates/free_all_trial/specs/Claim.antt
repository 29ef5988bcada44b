-- The trial on bytes decides the call.
use Rattle.std.specs.Prelude.{◌≡◌, List, ℕ}
use Rattle.sound_pools.specs.Sound.{Sound}
use Rattle.free_all_bytes.specs.FreeAll.{free_all_answered}
use Rattle.free_all_trial.specs.Mirror.{tried_on}

abbrev pub Decides : Type 0
Decides = (w : ℕ) (s : List ℕ) → Sound w s → (offs : List ℕ) → tried_on w s 0 offs ≡ free_all_answered w s offs
