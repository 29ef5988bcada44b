use native.Mathlib.Omega.{arith}
use Rattle.map_new.proofs.First.{first-written, more_zero}
use Rattle.map_new.proofs.write_new_map.Goals as goal

pub loop-j-init : goal.loop-j-init
loop-j-init c = (omega arith, first-written c.args.map.now _ c.args.k _ (λ i. (c.slice_known-1.given i).fits) c.requires.0 c.top_word.ensures c.put64.ensures)

pub loop-j-preserved : goal.loop-j-preserved
loop-j-preserved c = let l = c.loop-j in
    (omega arith, more_zero _ l.map c.args.k l.j c.requires.1 l.invariant.0 (omega arith) l.invariant.1)
