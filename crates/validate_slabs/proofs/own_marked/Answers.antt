use native.Mathlib.Omega.{arith}
use Rattle.validate_slabs.proofs.Top.{own_read, map-inside}
use Rattle.validate_slabs.proofs.own_marked.Goals as goal

pub get_word_in-requires : goal.get_word_in-requires
get_word_in-requires c = omega (arith, map-inside c.args.w c.args.pool.now c.args.n c.args.p.0 c.args.c _ c.requires.0 c.requires.1 c.map_at-k.ensures.answer)

pub returns : goal.returns
returns c = own_read _ _ _ _ _ _ _ _ c.requires c.map_at-k.ensures.answer (λ i. (c.shared_slice_known-1.given i).fits) c.own_word.ensures c.get_word_in.ensures
