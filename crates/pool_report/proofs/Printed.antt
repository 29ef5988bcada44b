-- What an image has past its first 53,608 bytes changes no printout.
use Rattle.std.specs.Prelude.{◌≡◌, ℕ, ◌≤◌, List, ◌++◌, false, length, ltb}
use Rattle.std.proofs.Common.{arith}
use Rattle.std.proofs.lemmas.List.{length-append}
use Rattle.std.proofs.lemmas.Bool.{le-ltb}
use Rattle.base.specs.Tests.{pick}
use Rattle.report.specs.Report.{too_long, printout}

pub past : (xs ys : List ℕ) → 53608 ≤ length xs → printout xs ≡ printout (xs ++ ys)
unfolding printout pick
past xs ys h =
    let short : ltb (length xs) too_long ≡ false = le-ltb (length xs) too_long h in
    let both : ltb (length (xs ++ ys)) too_long ≡ false = le-ltb (length (xs ++ ys)) too_long (omega (arith, length-append xs ys)) in
    rw (short, both)
