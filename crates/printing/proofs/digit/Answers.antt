use native.Mathlib.Omega.{arith}
use Rattle.printing.proofs.Digits.{ten_power, power_small, ten_pos}
use Rattle.printing.proofs.digit.Goals as goal

pub pow-requires : goal.pow-requires
pow-requires c = omega (arith, power_small c.args.k c.requires)

pub nonzero_div-result : goal.nonzero_div-result
nonzero_div-result c = rw (c.pow.ensures, ← ten_power c.args.k) (ten_pos c.args.k)

pub returns : goal.returns
returns c = rw (c.pow.ensures, ten_power c.args.k)
