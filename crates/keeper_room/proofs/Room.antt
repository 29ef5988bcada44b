-- What a free would release, on validated records, is the room of the model.
use mathlib.Core.Path.{◌≡◌, refl, sym, ap, ◌∙◌}
use mathlib.Core.Bool.{true, false}
use mathlib.Core.List.{List}
use Prim.Native.Nat.{ℕ}
use Rattle.base.proofs.AllBelow.{pick_yes, pick_no}
use Rattle.answers.specs.Outcome.{Outcome, granted, refused}
use Rattle.answers.specs.declared.Refusal.TheVariants.{NotTaken}
use Rattle.model.specs.Classes.{chunk}
use Rattle.model.specs.Calls.{Free, Answer, at, freed, no, step}
use Rattle.model.specs.Effects.{FreeEffect, Effect}
use Rattle.model.proofs.Claim.{claims}
use Rattle.rules.specs.Bytes.{read}
use Rattle.free_sound.specs.Mirror.{marked, chunk_outcome, free_outcome}
use Rattle.drawing.proofs.Laws.{claims as laws-of}
use Rattle.demands.specs.Calls.{outcome}
use Rattle.demands.proofs.Calls.{sound-answer}
use Rattle.demands.proofs.Steps.{free_met}
use Rattle.sound_pools.specs.Sound.{Validated}
use Rattle.keeper_model.specs.Directory.{released_by, room_at}

module _ {w : ℕ} {s : List ℕ} {pages : ℕ} (G : Validated w s pages) (off : ℕ) where
  released : (outcome (step (read w s) (Free off)).answer).value ≡ room_at (read w s) off
  unfolding room_at Effect FreeEffect
  released = go (step (read w s) (Free off)).answer (claims.calls_keep (read w s) ((laws-of w G.pool.wide G.pool.narrow s G.pool.bytes).sound-fits G.pool.sound).well (Free off)).effect
    where
      go : (a : Answer) → FreeEffect off (read w s).page a (step (read w s) (Free off)).after.page → (outcome a).value ≡ released_by a
      go (at x) e = absurd e
      go (freed n) e = refl
      go (no k) e = refl

  pub room_is : (free_outcome w s pages off).value ≡ room_at (read w s) off
  room_is =
      ap (λ (n : ℕ). (free_outcome w s n off).value) G.counted
      ∙ ap (λ (o : Outcome). o.value) ((free_met w G.pool.wide G.pool.narrow s G.pool.bytes G.pool.sound off).0 ∙ sound-answer w G.pool.wide G.pool.narrow s G.pool.bytes G.pool.sound (Free off))
      ∙ released

-- the room of a chunk, by its mark
module _ (w : ℕ) (s : List ℕ) (pages c p i : ℕ) where
  pub taken_room : marked w s pages c p i ≡ true → chunk c ≡ (chunk_outcome w s pages c p i).value
  unfolding chunk_outcome
  taken_room e = sym (ap (λ (o : Outcome). o.value) (pick_yes (marked w s pages c p i) (granted (chunk c)) (refused NotTaken) e))

  pub no_room_lem : marked w s pages c p i ≡ false → 0 ≡ (chunk_outcome w s pages c p i).value
  unfolding chunk_outcome
  no_room_lem e = sym (ap (λ (o : Outcome). o.value) (pick_no (marked w s pages c p i) (granted (chunk c)) (refused NotTaken) e))
