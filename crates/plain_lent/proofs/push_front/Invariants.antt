use Rattle.std.proofs.Common.{◌≡◌, ◌++◌, take, drop}
use Rattle.plain.specs.Arrays.{pushed}
use Rattle.plain.specs.Table.{is_vacant}
use Rattle.plain_lent.proofs.push_front.Given as goal

abbrev pub invariant-loop-place : goal.invariant-loop-place
invariant-loop-place l = take l.place-index l.place-items ++ pushed is_vacant l.carry (drop l.place-index l.place-items) ≡ pushed is_vacant l.fn.e l.initial.place-items
