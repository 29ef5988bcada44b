use mathlib.Core.Path.{refl}
use native.Mathlib.Omega.{arith}
use Rattle.sound_pools.proofs.Validated.{unsound-told, validated}
use Rattle.calls.proofs.sound_pages.Goals as goal

pub returns-then-not-validate : goal.returns-then-not-validate
returns-then-not-validate c = record { sound = tt; unsound = (unsound-told _ _ _ c.validate.ensures c.if-not-validate.true, refl) }

pub returns : goal.returns
returns c = record {
  sound = validated c.args.w c.args.pool.now c.validate.result c.validate.ensures c.requires (omega arith) (λ i. (c.shared_slice_known-1.given i).fits) c.if-not-validate.false c.pages_in.result c.pages_in.ensures;
  unsound = tt;
}
