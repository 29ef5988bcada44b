-- Requests on validated records: what the loop does is what the definitions say, and the records stay sound.
use mathlib.Core.Path.{◌≡◌, refl, ap}
use mathlib.Core.Bool.{Bool, true, false}
use mathlib.Core.List.{List, [], ◌∷◌}
use mathlib.Core.Option.{Option, none, some}
use Prim.Native.Nat.{ℕ, ◌/◌, ◌%◌}
use lib.Dec.{eqb}
use Rattle.base.specs.Tests.{pick}
use Rattle.answers.specs.Outcome.{refused}
use Rattle.answers.specs.declared.Refusal.TheVariants.{Unreadable}
use Rattle.answer_words.specs.Word.{word_of}
use Rattle.model.specs.Calls.{Call, Alloc, Free}
use Rattle.alloc_sound.specs.Mirror.{alloc_outcome, alloc_slice}
use Rattle.free_sound.specs.Mirror.{free_outcome, free_slice}
use Rattle.serve.specs.Mirror.{asked_outcome, asked_slice, served_word, served_slice, served_words, served_all}
use Rattle.serve.proofs.Order.{InOrder}
use Rattle.sound_pools.specs.Sound.{Validated}
use Rattle.sound_pools.proofs.Validated.{alloc_does, free_does, valid_after}
use Rattle.batch.specs.Batch.{call_in, outcome_on, slice_on, reply_to, left_by, replies, left_by_all}

pub in_order : (w : ℕ) → InOrder (reply_to w) (left_by w) (replies w) (left_by_all w)
unfolding replies left_by_all
in_order w = record { no-reply = λ s. refl; one_reply = λ s x xs. refl; none_left = λ s. refl; one_left = λ s x xs. refl }

module _ {w pages : ℕ} where
  module _ {s : List ℕ} (G : Validated w s pages) where
    -- the records stay sound
    pub stays_valid : (x : ℕ) → Validated w (left_by w s x) pages
    unfolding left_by
    stays_valid x = go (call_in x)
      where
        go : (q : Option Call) → Validated w (slice_on w s q) pages
        go none = G
        go (some call) = valid_after G call

    -- the tests of the upper half lead to the call that the word asks for
    asked : (t u : Bool) (low : ℕ) →
        (pick t (alloc_outcome w s pages low) (pick u (free_outcome w s pages low) (refused Unreadable)) ≡
        outcome_on w s (pick t (some (Alloc low)) (pick u (some (Free low)) none))) ×
        (pick t (alloc_slice w s pages low) (pick u (free_slice w s pages low) s) ≡ slice_on w s (pick t (some (Alloc low)) (pick u (some (Free low)) none)))
    unfolding pick
    asked true u low = alloc_does G low
    asked false true low = free_does G low
    asked false false low = (refl, refl)

    served : (x : ℕ) → (served_word w pages s x ≡ reply_to w s x) × (served_slice w pages s x ≡ left_by w s x)
    unfolding asked_outcome asked_slice served_word served_slice call_in reply_to left_by
    served x =
        let a = asked (eqb (x / 4294967296) 0) (eqb (x / 4294967296) 2147483648) (x % 4294967296) in
        (ap word_of a.0, a.1)

  pub all-served : {s : List ℕ} → Validated w s pages → (xs : List ℕ) →
      (served_words w pages s xs ≡ replies w s xs) × (served_all w pages s xs ≡ left_by_all w s xs)
  unfolding served_words served_all replies left_by_all
  all-served G [] = (refl, refl)
  all-served {s} G (x ∷ xs) =
      let one = served G x in
      let rest = all-served {s = left_by w s x} (stays_valid G x) xs in
      (rw (one.0, one.1) (ap (λ (l : List ℕ). reply_to w s x ∷ l) rest.0), rw one.1 rest.1)
