-- What a script has past its first 12,289 bytes changes no printout.
use Rattle.std.specs.Prelude.{◌≡◌, ℕ, ◌≤◌, List, ◌++◌, false, length, leb}
use Rattle.std.proofs.Common.{arith}
use Rattle.std.proofs.lemmas.List.{length-append}
use Rattle.std.proofs.lemmas.Bool.{lt-leb}
use Rattle.base.specs.Tests.{pick}
use Rattle.script.specs.Script.{longest, printout}

pub past : (xs ys : List ℕ) → 12289 ≤ length xs → printout xs ≡ printout (xs ++ ys)
unfolding printout pick
past xs ys h =
    let short : leb (length xs) longest ≡ false = lt-leb (length xs) longest h in
    let both : leb (length (xs ++ ys)) longest ≡ false = lt-leb (length (xs ++ ys)) longest (omega (arith, length-append xs ys)) in
    rw (short, both)
