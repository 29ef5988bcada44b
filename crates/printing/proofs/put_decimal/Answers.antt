use mathlib.Core.Path.{◌≡◌, ◌∙◌}
use Prim.Native.Nat.{◌+◌}
use native.Mathlib.Omega.{arith}
use lib.ListN.{length}
use borrow.Author.Rules.{rules}
use Rattle.printing.specs.Text.{decimal}
use Rattle.printing.proofs.Digits.{places-few, length-decimal}
use Rattle.printing.proofs.Writing.{decimal-begun, digit_more, digits-done}
use Rattle.printing.proofs.put_decimal.Goals as goal

pub loop-k-init : goal.loop-k-init
loop-k-init c = let e = c.places_of-k.ensures in (omega (arith, e), decimal-begun _ _ _ _ e)

pub digit-requires : goal.digit-requires
digit-requires c = omega (arith, (places-few c.args.v).1, c.loop-k.invariant.0)

pub overflow_add-at : goal.overflow_add-at
overflow_add-at c = search (rules, (places-few c.args.v).1, c.loop-k.invariant.0)

pub loop-k-preserved : goal.loop-k-preserved
loop-k-preserved c = let i = c.loop-k.invariant in
    (omega (arith, i.0), digit_more _ _ _ _ _ _ (search rules) c.digit.ensures c.put_byte.ensures ∙ i.1)

pub returns : goal.returns
returns c = let i = c.loop-k.invariant in
    let a = c.args in
    let z : c.loop-k.k ≡ 0 = omega arith in
    let e : c.loop-k.at ≡ a.n + length (decimal a.v) = omega (arith, z, i.0, length-decimal a.v) in
    (e, digits-done _ _ _ _ _ z i.1, omega (arith, e, length-decimal a.v, (places-few a.v).1))
