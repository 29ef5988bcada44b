-- A batch is refused and leaves everything, or is served.
use mathlib.Core.Path.{◌≡◌, refl, sym, ap, ◌∙◌}
use mathlib.Core.Logic.{◌≢◌}
use mathlib.Core.Bool.{false}
use mathlib.Core.List.{List, ◌++◌}
use Prim.Native.Nat.{ℕ, ◌≤◌, ◌<◌}
use lib.Dec.{eqb}
use lib.ListN.{length, drop}
use borrow.Author.Tests.{lt-ltb, le-ltb, eq-eqb, ne_eqb}
use Rattle.base.proofs.AllBelow.{pick_yes, pick_no}
use Rattle.answers.specs.Outcome.{Outcome, number_of, granted, refused}
use Rattle.answers.specs.declared.Refusal.{Refusal}
use Rattle.answers.specs.declared.Refusal.TheVariants.{NotSound, AnswersTooShort}
use Rattle.rules.specs.Bytes.{broken_rule}
use Rattle.serve.specs.Mirror.{served_words, served_all}
use Rattle.sound_pools.specs.Sound.{Validated}
use Rattle.batch.specs.Batch.{replies, left_by_all, batch_outcome, batch_pool, batch_answers}
use Rattle.batch.specs.Claim.{Refused}
use Rattle.batch.proofs.Serving.{all-served}

module _ (w : ℕ) (s requests answers : List ℕ) where
  pub is-refused : (r : Refusal) → batch_outcome w s requests answers ≡ refused r → eqb (number_of r) 0 ≡ false → Refused w s requests answers r
  unfolding batch_pool batch_answers
  is-refused r e n =
      let f = ap (λ (o : Outcome). eqb o.number 0) e ∙ n in
      record { outcome = e; pool = pick_no _ _ _ f; places = pick_no _ _ _ f }

  pub is-short : length answers < length requests → Refused w s requests answers AnswersTooShort
  unfolding batch_outcome
  is-short h = is-refused AnswersTooShort (pick_yes _ _ _ (lt-ltb _ _ h)) refl

  module _ (h : length requests ≤ length answers) where
    pub is-unsound : broken_rule w s ≢ 0 → Refused w s requests answers NotSound
    unfolding batch_outcome
    is-unsound n = is-refused NotSound (pick_no _ _ _ (le-ltb _ _ h) ∙ pick_no _ _ _ (ne_eqb _ _ n)) refl

    module _ (sound : broken_rule w s ≡ 0) where
      pub is-granted : batch_outcome w s requests answers ≡ granted 0
      unfolding batch_outcome
      is-granted = pick_no _ _ _ (le-ltb _ _ h) ∙ pick_yes _ _ _ (eq-eqb _ _ sound)

      pub pool-is : batch_pool w s requests answers ≡ left_by_all w s requests
      unfolding batch_pool
      pool-is = pick_yes _ _ _ (ap (λ (o : Outcome). eqb o.number 0) is-granted)

      pub answers_are : batch_answers w s requests answers ≡ replies w s requests ++ drop (length requests) answers
      unfolding batch_answers
      answers_are = pick_yes _ _ _ (ap (λ (o : Outcome). eqb o.number 0) is-granted)

    pub is-done : {pages : ℕ} → Validated w s pages → (u a : List ℕ) →
        u ≡ served_all w pages s requests → a ≡ served_words w pages s requests ++ drop (length requests) answers →
        (granted 0 ≡ batch_outcome w s requests answers) × ((u ≡ batch_pool w s requests answers) × (a ≡ batch_answers w s requests answers))
    is-done G u a e f =
        let z = G.pool.sound in
        let all = all-served G requests in
        (sym (is-granted z), (e ∙ all.1 ∙ sym (pool-is z), f ∙ ap (λ (l : List ℕ). l ++ drop (length requests) answers) all.0 ∙ sym (answers_are z)))
