-- Answers in 32 bits.
use Rattle.std.proofs.Common.{◌≡◌, ℕ, ◌+◌, ◌*◌, ◌<◌, refl, ap, ◌∙◌, arith, lt-ltb}
use Rattle.base.specs.Tests.{pick}
use Rattle.base.proofs.AllBelow.{pick_yes}
use Rattle.answers.specs.Outcome.{Outcome, granted, refused}
use Rattle.answers.specs.declared.Refusal.TheVariants.{NoRoom, NothingAsked}
use Rattle.alloc_sound.specs.Mirror.{outcome_of}

pub offset-granted : (x v : ℕ) → x ≡ v → x < 4294967294 → outcome_of x ≡ granted v
unfolding outcome_of
offset-granted x v e h = pick_yes _ _ _ (lt-ltb x 4294967294 h) ∙ ap granted e

pub nothing_asked_lem : outcome_of 4294967294 ≡ refused NothingAsked
unfolding outcome_of pick
nothing_asked_lem = refl

pub no_room_lem : outcome_of 4294967295 ≡ refused NoRoom
unfolding outcome_of pick
no_room_lem = refl

-- the first byte of page p
pub page-start : (o : Outcome) (p : ℕ) → o ≡ granted (4096 * p + 0) → o ≡ granted (4096 * p)
page-start o p e = let z : 4096 * p + 0 ≡ 4096 * p = omega arith in e ∙ ap granted z
