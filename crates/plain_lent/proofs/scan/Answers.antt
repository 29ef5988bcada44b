use Rattle.std.proofs.Common.{◌∙◌}
use Rattle.std.proofs.Math.Seq.{length-take-le}
use Rattle.plain.proofs.Loops.{place-position}
use Rattle.plain_lent.proofs.scan.Goals as goal

pub returns : goal.returns
returns c = c.unwrap_or.ensures ∙ rw c.first_passing.ensures (place-position _ _ 12 (length-take-le 12 _ c.requires))
