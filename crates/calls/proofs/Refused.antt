-- A call on unsound records is refused with 3 and changes nothing. Named on the calls, so that any return of theirs is judged by it.
use mathlib.Core.Path.{◌≡◌, refl, sym}
use mathlib.Core.Logic.{◌≢◌}
use mathlib.Core.List.{List}
use Prim.Native.Nat.{ℕ}
use borrow.Author.Tests.{ne_eqb}
use Rattle.answers.specs.Outcome.{refused}
use Rattle.answers.specs.declared.Refusal.TheVariants.{NotSound}
use Rattle.model.specs.Calls.{Call}
use Rattle.rules.specs.Bytes.{broken_rule}
use Rattle.demands.specs.Calls.{answered, after}
use Rattle.demands.proofs.Steps.{refused-unsound}

pub unsound_refused : (w : ℕ) (s : List ℕ) (x : Call) → broken_rule w s ≢ 0 → answered w s x ≡ refused NotSound
unsound_refused w s x d = sym (refused-unsound w s _ refl x (ne_eqb _ _ d)).0

pub unsound_stays : (w : ℕ) (s : List ℕ) (x : Call) → broken_rule w s ≢ 0 → after w s x ≡ s
unsound_stays w s x d = sym (refused-unsound w s _ refl x (ne_eqb _ _ d)).1
