-- The loop of single frees on validated records.
use mathlib.Core.Path.{◌≡◌, sym, ap, ◌∙◌}
use mathlib.Core.List.{List, ◌∷◌}
use Prim.Native.Nat.{ℕ, suc, ◌+◌, ◌≤◌, ◌<◌}
use native.Mathlib.Numerals.{add-one}
use lib.ListN.{length, get_or, drop}
use lib.Seq.{drop-cons}
use Rattle.model.specs.Calls.{Free}
use Rattle.free_sound.specs.Mirror.{free_slice}
use Rattle.demands.specs.Calls.{after}
use Rattle.sound_pools.specs.Sound.{Validated}
use Rattle.sound_pools.proofs.Validated.{free_does, valid_after}
use Rattle.free_all_bytes.specs.FreeAll.{freed_each}
use Rattle.free_all_list.proofs.Steps.{drop_all}

-- what is left of the list, on the slice t, makes the whole
abbrev pub Left : (w : ℕ) (s offs : List ℕ) (i : ℕ) (t : List ℕ) → Type 0
Left w s offs i t = freed_each w t (drop i offs) ≡ freed_each w s offs

module _ (w : ℕ) (s offs : List ℕ) (i : ℕ) (t : List ℕ) where
  pub left_end : length offs ≤ i → Left w s offs i t → t ≡ freed_each w s offs
  unfolding freed_each
  left_end h e = rw (drop_all i offs h) at e

  -- the free of the offset at place i
  pub left-next : (pages x : ℕ) (u : List ℕ) → Validated w t pages → i < length offs → x ≡ get_or offs i 0 → u ≡ free_slice w t pages x → Left w s offs i t →
      Validated w u pages × Left w s offs (i + 1) u
  unfolding freed_each
  left-next pages x u G here read e l =
      let done : u ≡ after w t (Free x) = e ∙ (free_does G x).1 in
      let first : drop i offs ≡ x ∷ drop (suc i) offs = drop-cons offs i 0 here ∙ ap (λ (z : ℕ). z ∷ drop (suc i) offs) (sym read) in
      rw (done, add-one i) (valid_after G (Free x), rw first at l)
