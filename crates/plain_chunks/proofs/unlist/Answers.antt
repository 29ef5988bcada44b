use Rattle.std.proofs.Common.{◌≡◌, ℕ, refl, nat_eq, set, get_or, arith, length-set}
use borrow.Author.Tests.{eq-eqb, ne_eqb}
use Rattle.base.specs.Tests.{pick}
use Rattle.plain.specs.Chunks.{unlisted}
use Rattle.plain.proofs.Loops.{remade-next, remade-end}
use Rattle.plain_chunks.proofs.unlist.Goals as goal
use Rattle.plain_chunks.proofs.unlist.Goals.{then-x-p, else-x-p}

pub loop-x-preserved : goal.loop-x-preserved
unfolding pick
loop-x-preserved c =
    let l = c.loop-x in
    let y : ℕ = get_or l.x-items l.x-index 0 in
    let e : c.if-x-p.x-items ≡ set l.x-items l.x-index (pick (nat_eq y c.args.p) 255 y) =
    elim c.if-x-p.branch [
      | then-x-p w ↦ rw (eq-eqb _ _ w.if-x-p.true) w.x-items-is
      | else-x-p w ↦ rw (ne_eqb _ _ w.if-x-p.false) w.x-items-is
    ]
    in
    rw e (simp length-set l.invariant.0, remade-next (λ j x. pick (nat_eq x c.args.p) 255 x) _ _ _ 0 _ l.invariant.1 (omega arith) refl)

pub returns : goal.returns
unfolding unlisted
returns c = remade-end (λ j x. pick (nat_eq x c.args.p) 255 x) _ _ _ c.loop-x.invariant.1 (omega arith)
