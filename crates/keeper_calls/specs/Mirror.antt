-- Places in the directory, in the order of the code.
use Rattle.std.specs.Prelude.{List, ℕ, leb, ltb, length}
use Rattle.base.specs.Tests.{pick}
use Rattle.base.specs.Search.{least}
use Rattle.answers.specs.Outcome.{Outcome, granted, refused}
use Rattle.answers.specs.declared.Refusal.TheVariants.{NotHeld}
use Rattle.keeper_model.specs.Store.{is_empty, holds}
use Rattle.keeper_words.specs.Words.{entries}
use Rattle.keeper_bytes.specs.Requests.{place_of}

-- the place of a key; the number of places where none holds it
unfoldable pub slot_in : (d : List ℕ) (key : ℕ) → ℕ
slot_in d key = least (λ i. holds key (entries d i)) (length d)

unfoldable pub place_in : (d : List ℕ) (key : ℕ) → ℕ
place_in d key = pick (ltb (slot_in d key) (length d)) (slot_in d key) (least (λ i. is_empty (entries d i)) (length d))

unfoldable pub looked_up : (d : List ℕ) (key : ℕ) → Outcome
looked_up d key = pick (leb (length d) (slot_in d key)) (refused NotHeld) (granted (place_of (entries d (slot_in d key))))
