-- The statement of `specs/Peaks.antt`, from that of a single free.
use mathlib.Core.Path.{◌≡◌, refl, ◌∙◌}
use mathlib.Core.List.{List, [], ◌∷◌}
use Prim.Native.Nat.{ℕ, ◌<◌}
use Rattle.records.specs.Class.{peak_at}
use Rattle.model.specs.Calls.{Free}
use Rattle.demands.specs.Calls.{after}
use Rattle.demands.proofs.PeakClaims.{peak_claims}
use Rattle.sound_pools.specs.Sound.{Sound}
use Rattle.sound_pools.proofs.Calls.{after-sound}
use Rattle.free_all_model.specs.FreeAll.{Completion, done, stopped}
use Rattle.free_all_bytes.specs.FreeAll.{free_all_answered, freed_each, whole_or_entry, free_all_after}
use Rattle.free_all_peaks.specs.Peaks.{PeaksStay}

module _ (w : ℕ) (third : 2 < w) (c : ℕ) (h : c < 9) where
  each-stays : (s : List ℕ) → Sound w s → (offs : List ℕ) → peak_at w (freed_each w s offs) c ≡ peak_at w s c
  unfolding freed_each
  each-stays s S [] = refl
  each-stays s S (off ∷ offs) =
      each-stays (after w s (Free off)) (after-sound w s S (Free off)) offs ∙ (peak_claims w third S.narrow s S.bytes c h).stays-freed S.sound off

pub peaks_stay : PeaksStay
unfolding free_all_after
peaks_stay w third s S offs c h = go (free_all_answered w s offs)
  where
    go : (a : Completion) → peak_at w (whole_or_entry a (freed_each w s offs) s) c ≡ peak_at w s c
    go done = unfold whole_or_entry in (each-stays w third c h s S offs)
    go (stopped k n) = unfold whole_or_entry in refl
