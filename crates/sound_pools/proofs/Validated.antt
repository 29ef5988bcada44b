-- Calls after one validation: what the code does is what the definitions say, and the records stay sound.
use mathlib.Core.Path.{◌≡◌, sym, ap, ◌∙◌, subst}
use mathlib.Core.Logic.{◌≢◌}
use mathlib.Core.Bool.{Bool, true, false}
use mathlib.Core.List.{List}
use Prim.Native.Nat.{ℕ, ◌%◌, ◌≤◌}
use native.Mathlib.Omega.{arith}
use lib.Dec.{eqb}
use lib.ListN.{length}
use borrow.Author.Tests.{eqb-true, eqb-false}
use Rattle.words.specs.Word.{Bytes}
use Rattle.records.specs.Layout.{page_count}
use Rattle.model.specs.Calls.{Call, Alloc, Free}
use Rattle.rules.specs.Bytes.{broken_rule}
use Rattle.classes.specs.Mirror.{Whole}
use Rattle.alloc_sound.specs.Mirror.{alloc_outcome, alloc_slice}
use Rattle.free_sound.specs.Mirror.{free_outcome, free_slice}
use Rattle.demands.specs.Calls.{answered, after}
use Rattle.demands.proofs.Facts as facts
use Rattle.demands.proofs.Steps.{alloc_met, free_met}
use Rattle.sound_pools.specs.Sound.{Sound, Validated}
use Rattle.sound_pools.proofs.Calls.{after-sound, after-length}

-- ---- from what validation answers

module _ (w : ℕ) (s : List ℕ) (t : Bool) (e : t ≡ eqb (broken_rule w s) 0) where
  pub unsound-told : t ≡ false → broken_rule w s ≢ 0
  unsound-told n = eqb-false _ _ (sym e ∙ n)

  sound-told : t ≡ true → broken_rule w s ≡ 0
  sound-told n = eqb-true _ _ (sym e ∙ n)

  pub validated : 2 ≤ w → w ≤ 255 → Bytes s → t ≡ true → (pages : ℕ) → pages ≡ page_count w (length s) % 65536 → Validated w s pages
  validated wide narrow B n pages p = record {
    pool = record { wide = wide; narrow = narrow; bytes = B; sound = sound-told n };
    counted = p ∙ omega (arith, facts.few w wide narrow s B (sound-told n));
  }

-- ---- a call

module _ {w : ℕ} {s : List ℕ} {pages : ℕ} (G : Validated w s pages) where
  S : Sound w s
  S = G.pool

  pub whole : Whole w s pages
  whole = subst (Whole w s) (sym G.counted) (facts.whole w S.wide S.narrow s S.bytes S.sound)

  pub alloc_does : (size : ℕ) → (alloc_outcome w s pages size ≡ answered w s (Alloc size)) × (alloc_slice w s pages size ≡ after w s (Alloc size))
  alloc_does size = rw G.counted (alloc_met w S.wide S.narrow s S.bytes S.sound size)

  pub free_does : (off : ℕ) → (free_outcome w s pages off ≡ answered w s (Free off)) × (free_slice w s pages off ≡ after w s (Free off))
  free_does off = rw G.counted (free_met w S.wide S.narrow s S.bytes S.sound off)

  pub valid_after : (call : Call) → Validated w (after w s call) pages
  valid_after call = record { pool = after-sound w s S call; counted = G.counted ∙ ap (page_count w) (sym (after-length w s S call)) }
