use native.Mathlib.Omega.{arith}
use Rattle.validate_shape.proofs.Arms.{walked, too_long, walk_fits}
use Rattle.validate_shape.proofs.run_fits.Goals as goal

pub returns-then-not-both : goal.returns-then-not-both
returns-then-not-both c = too_long _ _ _ _ _ _ c.both.ensures c.if-not-both.true

pub overflow_sub-k : goal.overflow_sub-k
overflow_sub-k c = (walked _ _ _ _ c.both.ensures c.if-not-both.false).0

pub all_kind-requires : goal.all_kind-requires
all_kind-requires c = omega (arith, walked c.args.n c.args.p c.args.k _ c.both.ensures c.if-not-both.false)

pub returns : goal.returns
returns c = walk_fits _ _ _ _ _ _ c.both.ensures c.if-not-both.false _ c.all_kind.ensures
