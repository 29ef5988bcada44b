-- Refusals but 4 change nothing, and 4 leaves what the alloc leaves.
use mathlib.Core.Path.{◌≡◌, refl}
use mathlib.Core.Logic.{◌≢◌}
use mathlib.Core.Bool.{true, false}
use mathlib.Core.List.{List}
use Prim.Native.Nat.{ℕ, ◌≤◌}
use native.Mathlib.Omega.{arith}
use lib.Dec.{eqb, leb, ltb}
use lib.ListN.{length}
use borrow.Author.Tests.{eqb-true, eqb-false, ltb-true, ne_eqb}
use Rattle.base.specs.Tests.{pick}
use Rattle.base.proofs.Tests.{both_true}
use Rattle.words.specs.Word.{Bytes}
use Rattle.answers.specs.declared.Refusal.TheVariants.{NotSound}
use Rattle.model.specs.Calls.{Alloc, Answer, at, freed, no, no_room, step}
use Rattle.rules.specs.Bytes.{broken_rule, read}
use Rattle.drawing.proofs.Laws.{claims as laws-of}
use Rattle.demands.specs.Calls.{outcome, answered, after}
use Rattle.demands.proofs.Calls.{sound-answer}
use Rattle.keeper_model.specs.Directory.{directory_ok}
use Rattle.keeper_model.specs.Requests.{Request, Put, Find, Remove, place_for}
use Rattle.keeper_model.specs.Store.{slot}
use Rattle.keeper_model.proofs.Directory.{test_says}
use Rattle.keeper_model.proofs.Lookup.{slot-holds}
use Rattle.keeper_model.proofs.Pool.{never_freed, refused_for_room}
use Rattle.keeper_words.specs.Words.{entries}
use Rattle.keeper_bytes.specs.Requests.{store_of, both_sound, Left, refuse_left, put_granted, put_answered, put_left, find_left, remove_left}
use Rattle.keeper_bytes.specs.Turns.{ask_left}
use Rattle.keeper_bytes.specs.Claim.{BothSound, Refusals}
use Rattle.keeper_bytes.proofs.Meeting.{picked, room_counts, removed-granted}

module _ (w : ℕ) (lo : 2 ≤ w) (hi : w ≤ 255) (s d : List ℕ) (bs : Bytes s) where
  -- ---- what the test of both says

  pub sound-told : both_sound w s d ≡ true → BothSound w s d
  unfolding both_sound
  sound-told e =
      let (a, b) = both_true (eqb (broken_rule w s) 0) (directory_ok (read w s) (length d) (entries d)) e in
      let p : broken_rule w s ≡ 0 = eqb-true _ _ a in
      let well = ((laws-of w lo hi s bs).sound-fits p).well in
      record { bytes = bs; pool = p; both = record { pool = well; directory = (test_says (store_of w s d) well).0 b } }

  unsound : both_sound w s d ≡ false → (q : Request) → ask_left w s d q ≡ refuse_left s d NotSound
  unfolding ask_left put_left find_left remove_left pick
  unsound e (Put key r) = rw e
  unsound e (Find key) = rw e
  unsound e (Remove key) = rw e

  -- ---- what is left by a request with this answer

  abbrev Same : Left → Type 0
  Same l = (l.pool ≡ s) × (l.words ≡ d)

  -- nothing is changed where it is refused, but for 4
  abbrev Keeps : Left → Type 0
  Keeps l = l.outcome.number ≢ 0 → l.outcome.number ≢ 4 → Same l

  answered-keeps : (key : ℕ) (r : List ℕ) → BothSound w s d → length r ≢ 0 → (i : ℕ) (a : Answer) → (step (read w s) (Alloc (length r))).answer ≡ a →
      Keeps (put_answered w s d i key r (outcome a))
  unfolding put_answered put_granted pick no_room
  answered-keeps key r S z i (at off) e = λ n m. absurd (n refl)
  answered-keeps key r S z i (freed k) e = absurd (never_freed (read w s) S.both.pool (length r) k e)
  answered-keeps key r S z i (no k) e =
      let q : k ≡ no_room = refused_for_room (read w s) S.both.pool (length r) k (omega arith) e in
      rw (ne_eqb k 0 (room_counts k q)) (λ n m. absurd (m q))

  put_keeps : (key : ℕ) (r : List ℕ) → Keeps (put_left w s d key r)
  unfolding put_left
  put_keeps key r =
      picked Keeps (both_sound w s d)
      (λ b. picked Keeps (eqb (length r) 0) (λ _ _ _. (refl, refl))
      (λ z. picked Keeps (ltb 65535 (length r)) (λ _ _ _. (refl, refl))
      (λ _. picked Keeps (leb (length d) (place_for (store_of w s d) key)) (λ _ _ _. (refl, refl))
      (λ _. rw (sound-answer w lo hi s bs (sound-told b).pool (Alloc (length r)))
      (answered-keeps key r (sound-told b) (eqb-false _ _ z) (place_for (store_of w s d) key) (step (read w s) (Alloc (length r))).answer refl)))))
      (λ _ _ _. (refl, refl))

  find-keeps : (key : ℕ) → Same (find_left w s d key)
  unfolding find_left
  find-keeps key =
      picked Same (both_sound w s d) (λ _. picked Same (ltb (slot (store_of w s d) key) (length d)) (λ _. (refl, refl)) (λ _. (refl, refl))) (λ _. (refl, refl))

  remove-keeps : (key : ℕ) → Keeps (remove_left w s d key)
  unfolding remove_left
  remove-keeps key =
      picked Keeps (both_sound w s d)
      (λ b. let S = sound-told b in
      picked Keeps (ltb (slot (store_of w s d) key) (length d))
      (λ e n _. absurd (n (removed-granted w lo hi s d bs S.pool S.both key (slot (store_of w s d) key) (slot-holds (store_of w s d) key (ltb-true _ _ e)))))
      (λ _ _ _. (refl, refl)))
      (λ _ _ _. (refl, refl))

  unchanged : (q : Request) → Keeps (ask_left w s d q)
  unfolding ask_left
  unchanged (Put key r) = put_keeps key r
  unchanged (Find key) = λ _ _. find-keeps key
  unchanged (Remove key) = remove-keeps key

  -- refused for room, only the alloc's tallies are left
  abbrev Tallied : List ℕ → Left → Type 0
  Tallied r l = l.outcome.number ≡ 4 → (l.pool ≡ after w s (Alloc (length r))) × (l.words ≡ d)

  no_room_lem : (key : ℕ) (r : List ℕ) → Tallied r (put_left w s d key r)
  unfolding put_left put_answered put_granted
  no_room_lem key r =
      picked (Tallied r) (both_sound w s d)
      (λ _. picked (Tallied r) (eqb (length r) 0) (λ _ e. absurd (omega arith))
      (λ _. picked (Tallied r) (ltb 65535 (length r)) (λ _ e. absurd (omega arith))
      (λ _. picked (Tallied r) (leb (length d) (place_for (store_of w s d) key)) (λ _ e. absurd (omega arith))
      (λ _. picked (Tallied r) (eqb (answered w s (Alloc (length r))).number 0) (λ _ e. absurd (omega arith)) (λ _ _. (refl, refl))))))
      (λ _ e. absurd (omega arith))

  pub refusals : Refusals w s d
  unfolding ask_left
  refusals = record { unsound = unsound; unchanged = unchanged; no_room_lem = no_room_lem }
