-- What is written is the text of what was read, and that is the text of the whole input.
use Rattle.std.proofs.Common.{ℕ, arith, take}
use lib.ListN.{length-replicate}
use Rattle.streams.proofs.Whole.{whole, front, told}
use Rattle.streams.proofs.answer.Goals as goal

pub returns : goal.returns
returns g c f prints within =
    let read = c.in_ok-length.ensures in
    let buf = c.read_full.new.buf in
    let out = c.print-printed.new.arg3 in
    let n = c.print-printed.result in
    let fits = c.requires.room _ _ _ _ c.print-printed.ensures in
    let text = prints _ _ _ _ c.print-printed.ensures in
    told _ _ _ _ f (take n out) (f (take c.in_ok-length.length buf))
    (front _ out _ n (omega (arith, fits, length-replicate {A = ℕ})) text.0 text.1)
    (whole f _ _ buf c.in_ok-length.length (λ xs ys h. within xs ys (omega arith)) read.within read.bytes read.whole)
    c.write_all.ensures.bytes
