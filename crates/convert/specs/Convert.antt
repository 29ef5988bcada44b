-- From a sound pool of edition 1 into a second slice as edition 2 (SPEC 13), for every content s of the source and t of the target.
use Rattle.std.specs.Prelude.{ℕ, ◌*◌, List, eqb}
use Rattle.base.specs.Tests.{pick}
use Rattle.records.specs.Layout.{pages_from}
use Rattle.records.specs.Class.{class_at}
use Rattle.answers.specs.Outcome.{Outcome, granted, refused}
use Rattle.answers.specs.declared.Refusal.TheVariants.{NotSound, WrongLength}
use Rattle.copying.specs.Lay.{lay}
use Rattle.image.specs.Image.{paint, with_peaks}
use Rattle.rules.specs.Bytes.{pages_in, image_of, broken_rule}

unfoldable pub convert_outcome : (s t : List ℕ) → Outcome
convert_outcome s t =
    pick (eqb (broken_rule 2 s) 0)
    (pick (eqb (pages_in 3 t) (pages_in 2 s)) (granted (pages_in 2 s)) (refused WrongLength))
    (refused NotSound)

-- the source's P pages, with its records over them, and each peak what the class has in use; the target's tail stays
unfoldable pub conversion : (P : ℕ) (s t : List ℕ) → List ℕ
conversion P s t =
    paint 3 P (image_of 2 s) (with_peaks 3 (λ c. (class_at 2 s c).used) (lay (pages_from 3 P) (pages_from 2 P) s (4096 * P) t))

-- a refused target stays as it was
unfoldable pub converted : (s t : List ℕ) → List ℕ
converted s t = pick (eqb (convert_outcome s t).number 0) (conversion (pages_in 2 s) s t) t
