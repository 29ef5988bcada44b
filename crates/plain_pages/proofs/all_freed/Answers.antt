use Rattle.std.proofs.Common.{refl, arith, length-set}
use Rattle.plain.specs.Plain.{free_entry}
use Rattle.plain.specs.Pages.{freed_at}
use Rattle.plain.proofs.Loops.{remade-next, remade-end}
use Rattle.plain_pages.proofs.all_freed.Goals as goal

pub loop-j-init : goal.loop-j-init
loop-j-init c = (omega arith, refl)

pub loop-j-preserved : goal.loop-j-preserved
unfolding free_entry
loop-j-preserved c =
    (simp length-set c.loop-j.invariant.0, remade-next (freed_at c.args.p c.args.k) _ _ _ free_entry _ c.loop-j.invariant.1 (omega arith) c.freed_at.ensures)

pub returns : goal.returns
returns c = remade-end (freed_at c.args.p c.args.k) _ _ _ c.loop-j.invariant.1 (omega arith)
