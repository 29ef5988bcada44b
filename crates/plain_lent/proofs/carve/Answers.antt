use Rattle.plain.specs.Table.{vacant}
use Rattle.plain_lent.proofs.Front.{carved-none, carved-past, carved_here}
use Rattle.plain_lent.proofs.carve.Goals as goal
use Rattle.plain_lent.proofs.carve.Goals.{else-k-ne0-via-then-k-ne0+else-i-lt12, else-k-ne0-via-else-k-ne0}

pub returns-then-i-lt12 : goal.returns-then-i-lt12
unfolding vacant
returns-then-i-lt12 c = rw c.cut_front.ensures (carved_here _ _ _ c.requires c.if-k-ne0.true c.if-i-lt12.true)

pub returns-else-k-ne0 : goal.returns-else-k-ne0
returns-else-k-ne0 c =
    elim c.else-k-ne0.branch [ else-k-ne0-via-then-k-ne0+else-i-lt12 w ↦ carved-past _ _ _ c.requires w.if-k-ne0.true w.if-i-lt12.false | else-k-ne0-via-else-k-ne0 w ↦ carved-none _ _ _ w.if-k-ne0.false ]
