use Rattle.std.proofs.Common.{◌≡◌, ◌++◌, length, take, drop}
use Rattle.plain.specs.Arrays.{pushed}
use Rattle.plain.specs.Chunks.{is_no_page}
use Rattle.plain_chunks.proofs.list_first.Given as goal

abbrev pub invariant-loop-place : goal.invariant-loop-place
invariant-loop-place l = (length l.place-items ≡ 12) × (take l.place-index l.place-items ++ pushed is_no_page l.carry (drop l.place-index l.place-items) ≡ pushed is_no_page l.initial.carry l.initial.place-items)
