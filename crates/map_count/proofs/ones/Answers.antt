use mathlib.Core.Path.{refl}
use native.Mathlib.Omega.{arith}
use Rattle.base.specs.Count.{sum, count}
use Rattle.map_count.proofs.Counts.{read_more}
use Rattle.map_count.proofs.ones.Goals as goal

pub loop-j-init : goal.loop-j-init
unfolding count sum
loop-j-init g c = (refl, omega arith)

pub loop-j-preserved : goal.loop-j-preserved
loop-j-preserved g c =
    read_more c.args.pool.now c.args.k c.loop-j.j _ c.loop-j.n (λ i. (c.type_inv.pool i).fits) (omega arith) c.get_word_in.ensures c.loop-j.invariant.0
