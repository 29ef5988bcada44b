-- What the code prints is the line of the outcome.
use mathlib.Core.Path.{◌≡◌}
use mathlib.Core.List.{List}
use Prim.Native.Nat.{ℕ, ◌+◌, ◌≤◌}
use lib.ListN.{length}
use Rattle.base.specs.Tests.{pick}
use Rattle.answers.specs.Outcome.{Outcome, number_of, granted, refused}
use Rattle.answers.specs.declared.Refusal.{Refusal}
use Rattle.answers.proofs.Refusals.{number_counts}
use Rattle.printing.specs.Text.{line, written, Prints}
use Rattle.script_replies.specs.Replies.{no_word, refusal_line, outcome_line}

module _ (s u : List ℕ) (n m : ℕ) where
  pub prints_refusal : (r : Refusal) (v : ℕ) → v ≡ number_of r → (m ≡ n + length (line no_word v)) × (u ≡ written s n (line no_word v)) × (m ≤ n + 3 + 11) →
      Prints s u n m (refusal_line r)
  unfolding refusal_line
  prints_refusal r v e p = rw (← e) (p.0, p.1)

  module _ (word : List ℕ) (o : Outcome) where
    pub prints_refused : (r : Refusal) → o ≡ refused r → Prints s u n m (refusal_line r) → Prints s u n m (outcome_line word o)
    unfolding outcome_line refusal_line pick
    prints_refused r e p = rw (e, number_counts r) p

    pub prints_granted : (v : ℕ) → o ≡ granted v → (m ≡ n + length (line word v)) × (u ≡ written s n (line word v)) × (m ≤ n + length word + 11) →
        Prints s u n m (outcome_line word o)
    unfolding outcome_line pick
    prints_granted v e p = rw e (p.0, p.1)
